-- What a courier keeps, written at a role.
use Rattle.std.proofs.Common.{◌≡◌, ℕ, zero, suc, ◌<◌, ◌≤◌, List, [], ◌∷◌, ◌++◌, map, length, replicate, refl, sym, ap, subst, ◌∙◌, arith}
use Rattle.std.specs.Prelude.{slice_index_or, slice_set}
use Rattle.std.specs.Coded.{le_prop}
use Rattle.std.proofs.Math.Logic.{∥∥₁_elim}
use Rattle.aw_list.proofs.Everyday.{length-slice_set as length-set}
use Rattle.aw_grammar.specs.declared.grammar.Grammar as declared
use Rattle.aw_grammar.specs.GrammarOf.{grammar_of}
use Rattle.aw_term.specs.Rules.{Grammar, upto}
use Rattle.aw_law_nodes.specs.Couriers.{Courier, new_courier}
use Rattle.aw_courier.specs.Mails.{Mailed, Shows, Holds, HasRoles, SameSize, queue_at, with_queue, IsNextUp}
use Rattle.aw_courier.specs.declared.queue.NextUp.{NextUp}
use Rattle.aw_courier.proofs.Lists.{index-set, index-within}

-- queues and places
abbrev pub mailed : List (List (List ℕ)) → List ℕ → Mailed
mailed qs ps = record { queues = qs; places = ps }

pub next-same : (m : Mailed) (qs : List (List (List ℕ))) (ps : List ℕ) (r : ℕ) (q : List (List ℕ)) → m ≡ mailed qs ps → r < length m.queues →
    mailed (slice_set qs r q) ps ≡ with_queue m r (slice_index_or (slice_set qs r q) r [])
next-same m qs ps r q e lt =
    let few : r < length qs = subst (λ (k : Mailed). r < length k.queues) e lt in
    ap (λ x. mailed (slice_set qs r x) ps) (sym (index-set [] qs r q few)) ∙ ap (λ (k : Mailed). with_queue k r (slice_index_or (slice_set qs r q) r [])) (sym e)

pub next-is : (m : Mailed) (qs : List (List (List ℕ))) (ps : List ℕ) (r room : ℕ) (old q : List (List ℕ)) (next : NextUp) → m ≡ mailed qs ps →
    r < length m.queues → old ≡ slice_index_or qs r old → IsNextUp room old q next →
    IsNextUp room (queue_at m r) (slice_index_or (slice_set qs r q) r []) next
next-is m qs ps r room old q next e lt is h =
    let few : r < length qs = subst (λ (k : Mailed). r < length k.queues) e lt in
    let old-is : old ≡ queue_at m r = is ∙ index-within [] old qs r few ∙ ap (λ (k : Mailed). queue_at k r) (sym e) in
    subst (λ x. IsNextUp room x (slice_index_or (slice_set qs r q) r []) next) old-is (subst (λ y. IsNextUp room old y next) (sym (index-set [] qs r q few)) h)

pub put-queues : (m : Mailed) (qs : List (List (List ℕ))) (ps : List ℕ) (r : ℕ) (old q : List (List ℕ)) (frame : List ℕ) → m ≡ mailed qs ps →
    r < length m.queues → old ≡ slice_index_or qs r old → q ≡ old ++ frame ∷ [] →
    slice_set qs r q ≡ slice_set m.queues r (queue_at m r ++ frame ∷ [])
put-queues m qs ps r old q frame e lt is new =
    let few : r < length qs = subst (λ (k : Mailed). r < length k.queues) e lt in
    let old-is : old ≡ queue_at m r = is ∙ index-within [] old qs r few ∙ ap (λ (k : Mailed). queue_at k r) (sym e) in
    ap (λ x. slice_set qs r x) (new ∙ ap (λ x. x ++ frame ∷ []) old-is) ∙ ap (λ (k : Mailed). slice_set k.queues r (queue_at m r ++ frame ∷ [])) (sym e)

zeros : (i n : ℕ) → map {B = ℕ} (λ (r : ℕ). 0) (upto i n) ≡ replicate n 0
zeros i zero = refl
zeros i (suc n) = ap (λ (xs : List ℕ). 0 ∷ xs) (zeros (suc i) n)

length-zeros : (i n : ℕ) → length (map {B = ℕ} (λ (r : ℕ). 0) (upto i n)) ≡ n
length-zeros i zero = refl
length-zeros i (suc n) = ap suc (length-zeros (suc i) n)

-- nothing was pulled yet
pub shows-new : (g : Grammar) (qs : List (List (List ℕ))) (ps : List ℕ) (n : ℕ) → g.roles ≡ n → length qs ≡ n →
    ((b : ℕ) → slice_index_or qs b [] ≡ []) → ps ≡ replicate n 0 → Shows g (mailed qs ps) (new_courier g)
shows-new g qs ps n e many empty places = record {
  many = many ∙ sym e;
  places = places ∙ ap (λ (k : ℕ). replicate {A = ℕ} k 0) (sym e) ∙ sym (zeros 0 g.roles);
  all = length-zeros 0 g.roles;
  queues = λ r lt. empty r;
}

-- ---- how many there are

pub same-size : (m m' : Mailed) (r : ℕ) (q : List (List ℕ)) → m' ≡ with_queue m r q → SameSize m m'
same-size m m' r q e = (ap (λ (k : Mailed). length k.queues) e ∙ length-set m.queues r q, ap (λ (k : Mailed). length k.places) e)

pub same-put : (m m' : Mailed) (r to p : ℕ) (q : List (List ℕ)) → m'.queues ≡ slice_set m.queues to q → m'.places ≡ slice_set m.places r p → SameSize m m'
same-put m m' r to p q a b = (ap length a ∙ length-set m.queues to q, ap length b ∙ length-set m.places r p)

pub still-holds : (r : ℕ) (m m' : Mailed) → Holds r m → SameSize m m' → Holds r m'
still-holds r m m' h s = (subst (λ n. r < n) (sym s.0) h.0, subst (λ n. r < n) (sym s.1) h.1)

pub size-then : (a b c : Mailed) → SameSize a b → SameSize b c → SameSize a c
size-then a b c s t = (t.0 ∙ s.0, t.1 ∙ s.1)

pub size-self : (a : Mailed) → SameSize a a
size-self a = (refl, refl)

pub still-roles : (n : ℕ) (m m' : Mailed) → HasRoles n m → SameSize m m' → HasRoles n m'
still-roles n m m' h s = (s.0 ∙ h.0, s.1 ∙ h.1)

pub role-few : (g : Grammar) (r : ℕ) (m : Mailed) (c : Courier) → Holds r m → Shows g m c → r < g.roles
role-few g r m c h s = subst (λ k. r < k) s.many h.0

-- a grammar has 64 roles at most
pub few_roles : (g : declared.Grammar) → (grammar_of g).roles ≤ 64
few_roles g = ∥∥₁_elim g.well_formed le_prop (λ w. omega (arith, w.roles, w.few_roles))
