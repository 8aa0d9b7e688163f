-- Reading one after the other, as a loop does.
use Rattle.std.proofs.Common.{◌≡◌, ℕ, suc, ◌-◌, ◌+◌, ◌≤◌, ◌<◌, List, [], ◌∷◌, ◌++◌, Result, Ok, Err, refl, sym, ap, ◌∙◌, append_assoc, arith}
use Rattle.std.proofs.lemmas.List.{append-nil}
use Rattle.aw_codec.specs.Reading.{Fault, Reader, ◌>>=◌, times}
use Rattle.aw_codec.specs.Reading as reading
use Rattle.aw_codec.specs.Gives.{Fails}
use Rattle.aw_codec.specs.declared.unread.Unread.{Unread}
use Rattle.aw_codec.specs.declared.unread.Unread.TheVariants.{Short, Bad, NoMemory}

-- what was read before, and what is still read
abbrev pub with_front : {A : Type 0} → List A → Result (List A × List ℕ) Fault → Result (List A × List ℕ) Fault
with_front front read = read >>= λ x. Ok (front ++ x.0, x.1)

regroup : {A : Type 0} (front : List A) (n : A) (read : Result (List A × List ℕ) Fault) → with_front front (read >>= λ x. Ok (n ∷ x.0, x.1)) ≡ with_front (front ++ n ∷ []) read
regroup {A} front n (Ok x) = ap (λ (ns : List A). Ok (ns, x.1)) (simp append_assoc)
regroup front n (Err f) = refl

pub goes_on : {A : Type 0} (item : Reader A) (front : List A) (count i : ℕ) (bytes : List ℕ) (n : A) (after : List ℕ) (total : Result (List A × List ℕ) Fault) → i < count → item bytes ≡ Ok (n, after)
    → with_front front (times item (count - i) bytes) ≡ total → with_front (front ++ n ∷ []) (times item (count - (i + 1)) after) ≡ total
goes_on item front count i bytes n after total lt h so_far =
    let k : count - i ≡ suc (count - (i + 1)) = omega arith in
    let one : with_front front (times item (count - i) bytes) ≡ with_front (front ++ n ∷ []) (times item (count - (i + 1)) after) = rw (k, h) (regroup front n (times item (count - (i + 1)) after)) in
    sym one ∙ so_far

stops : {A : Type 0} (f : Fault) (item : Reader A) (front : List A) (count i : ℕ) (bytes : List ℕ) (total : Result (List A × List ℕ) Fault) → i < count → item bytes ≡ Err f
    → with_front front (times item (count - i) bytes) ≡ total → total ≡ Err f
stops f item front count i bytes total lt h so_far =
    let k : count - i ≡ suc (count - (i + 1)) = omega arith in
    let one : with_front front (times item (count - i) bytes) ≡ Err f = rw (k, h) refl in
    sym so_far ∙ one

pub ends : {A : Type 0} (e : Unread) (item : Reader A) (front : List A) (count i : ℕ) (bytes : List ℕ) (total : Result (List A × List ℕ) Fault) → i < count → Fails e (item bytes)
    → with_front front (times item (count - i) bytes) ≡ total → Fails e total
ends NoMemory item front count i bytes total lt h so_far = tt
ends Short item front count i bytes total lt h so_far = stops reading.Short item front count i bytes total lt h so_far
ends (Bad left) item front count i bytes total lt h so_far = stops (reading.Bad left) item front count i bytes total lt h so_far

pub is_done : {A : Type 0} (item : Reader A) (front : List A) (count i : ℕ) (bytes : List ℕ) (total : Result (List A × List ℕ) Fault) → count ≤ i →
    with_front front (times item (count - i) bytes) ≡ total → total ≡ Ok (front, bytes)
is_done {A} item front count i bytes total le so_far =
    let k : count - i ≡ 0 = omega arith in
    let one : with_front front (times item (count - i) bytes) ≡ Ok (front, bytes) = rw k (ap (λ (ns : List A). Ok (ns, bytes)) (append-nil front)) in
    sym so_far ∙ one
