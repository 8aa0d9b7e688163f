-- Reading terms one after the other, as a loop does.
use Rattle.std.proofs.Common.{◌≡◌, ℕ, zero, suc, subst, ◌-◌, ◌+◌, ◌≤◌, ◌<◌, List, [], ◌∷◌, ◌++◌, Result, Ok, Err, refl, sym, ap, ◌∙◌, append_assoc, arith}
use Rattle.std.proofs.lemmas.List.{append-nil}
use Rattle.aw_codec.specs.Reading.{Fault, Reader, ◌>>=◌}
use Rattle.aw_codec.specs.Reading as reading
use Rattle.aw_term.specs.Rules.{Ground}
use Rattle.aw_codec.specs.Grounds.{in_turn, no_term, head, with_parts, ground}
use Rattle.aw_codec.specs.Gives.{Fails}
use Rattle.aw_codec.specs.declared.unread.Unread.{Unread}
use Rattle.aw_codec.specs.declared.unread.Unread.TheVariants.{Short, Bad, NoMemory}

-- what was read before, and what is still read
abbrev pub with_front : {A : Type 0} → List A → Result ((List A × ℕ) × List ℕ) Fault → Result ((List A × ℕ) × List ℕ) Fault
with_front front read = read >>= λ x. Ok ((front ++ x.0.0, x.0.1), x.1)

regroup : {A : Type 0} (front : List A) (n : A) (read : Result ((List A × ℕ) × List ℕ) Fault) → with_front front (read >>= λ x. Ok ((n ∷ x.0.0, x.0.1), x.1)) ≡ with_front (front ++ n ∷ []) read
regroup {A} front n (Ok x) = ap (λ (ns : List A). Ok ((ns, x.0.1), x.1)) (simp append_assoc)
regroup front n (Err f) = refl

pub goes_on : {A : Type 0} (item : ℕ → Reader (A × ℕ)) (front : List A) (count i left : ℕ) (bytes : List ℕ) (n : A) (less : ℕ) (after : List ℕ)
    (total : Result ((List A × ℕ) × List ℕ) Fault) → i < count → item left bytes ≡ Ok ((n, less), after)
    → with_front front (in_turn item (count - i) left bytes) ≡ total → with_front (front ++ n ∷ []) (in_turn item (count - (i + 1)) less after) ≡ total
goes_on item front count i left bytes n less after total lt h so_far =
    let k : count - i ≡ suc (count - (i + 1)) = omega arith in
    let one : with_front front (in_turn item (count - i) left bytes) ≡ with_front (front ++ n ∷ []) (in_turn item (count - (i + 1)) less after) =
    rw (k, h) (regroup front n (in_turn item (count - (i + 1)) less after)) in
    sym one ∙ so_far

stops : {A : Type 0} (f : Fault) (item : ℕ → Reader (A × ℕ)) (front : List A) (count i left : ℕ) (bytes : List ℕ) (total : Result ((List A × ℕ) × List ℕ) Fault) → i < count → item left bytes ≡ Err f
    → with_front front (in_turn item (count - i) left bytes) ≡ total → total ≡ Err f
stops f item front count i left bytes total lt h so_far =
    let k : count - i ≡ suc (count - (i + 1)) = omega arith in
    let one : with_front front (in_turn item (count - i) left bytes) ≡ Err f = rw (k, h) refl in
    sym so_far ∙ one

pub ends : {A : Type 0} (e : Unread) (item : ℕ → Reader (A × ℕ)) (front : List A) (count i left : ℕ) (bytes : List ℕ)
    (total : Result ((List A × ℕ) × List ℕ) Fault) → i < count → Fails e (item left bytes)
    → with_front front (in_turn item (count - i) left bytes) ≡ total → Fails e total
ends NoMemory item front count i left bytes total lt h so_far = tt
ends Short item front count i left bytes total lt h so_far = stops reading.Short item front count i left bytes total lt h so_far
ends (Bad n) item front count i left bytes total lt h so_far = stops (reading.Bad n) item front count i left bytes total lt h so_far

pub is_done : {A : Type 0} (item : ℕ → Reader (A × ℕ)) (front : List A) (count i left : ℕ) (bytes : List ℕ)
    (total : Result ((List A × ℕ) × List ℕ) Fault) → count ≤ i → with_front front (in_turn item (count - i) left bytes) ≡ total →
    total ≡ Ok ((front, left), bytes)
is_done {A} item front count i left bytes total le so_far =
    let k : count - i ≡ 0 = omega arith in
    let one : with_front front (in_turn item (count - i) left bytes) ≡ Ok ((front, left), bytes) = rw k (ap (λ (ns : List A). Ok ((ns, left), bytes)) (append-nil front)) in
    sym so_far ∙ one

-- ---- a term by its head

pub fails_then : {A B : Type 0} (e : Unread) (read : Result A Fault) (f : A → Result B Fault) → Fails e read → Fails e (read >>= f)
fails_then NoMemory read f h = tt
fails_then Short read f h = ap (λ r. r >>= f) h
fails_then (Bad n) read f h = ap (λ r. r >>= f) h

no_levels : (allowed : ℕ) (bytes : List ℕ) → ground 0 allowed bytes ≡ no_term bytes
unfolding ground
no_levels allowed bytes = refl

no_symbols : (levels : ℕ) (bytes : List ℕ) → ground levels 0 bytes ≡ no_term bytes
unfolding ground
no_symbols zero bytes = refl
no_symbols (suc levels) bytes = refl

pub without_levels : (e : Unread) (levels allowed : ℕ) (bytes : List ℕ) → levels ≡ 0 → Fails {Y = (Ground × ℕ) × List ℕ} e (no_term bytes) → Fails e (ground levels allowed bytes)
without_levels e levels allowed bytes none h = subst (λ r. Fails e r) (sym (ap (λ n. ground n allowed bytes) none ∙ no_levels allowed bytes)) h

pub without_symbols : (e : Unread) (levels allowed : ℕ) (bytes : List ℕ) → allowed ≡ 0 → Fails {Y = (Ground × ℕ) × List ℕ} e (no_term bytes) → Fails e (ground levels allowed bytes)
without_symbols e levels allowed bytes none h = subst (λ r. Fails e r) (sym (ap (λ n. ground levels n bytes) none ∙ no_symbols levels bytes)) h

by_head : (levels allowed : ℕ) (bytes : List ℕ) → ground (suc levels) (suc allowed) bytes ≡ (head bytes >>= λ h. with_parts (ground levels) h.0 allowed h.1)
unfolding ground
by_head levels allowed bytes = refl

pub ground_step : (levels below allowed left : ℕ) (bytes : List ℕ) → levels ≡ suc below → allowed ≡ suc left →
    ground levels allowed bytes ≡ (head bytes >>= λ h. with_parts (ground below) h.0 left h.1)
ground_step levels below allowed left bytes e f = ap (λ n. ground n allowed bytes) e ∙ ap (λ n. ground (suc below) n bytes) f ∙ by_head below left bytes
