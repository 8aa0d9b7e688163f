-- Where the chases from slots end, and what is kept of it.
use Rattle.std.proofs.Common.{◌≡◌, ℕ, zero, suc, ◌<◌, List, [], ◌∷◌, length, Some, inl, inr, refl, sym, ap, ◌∙◌, subst}
use Rattle.std.specs.Prelude.{Option, ◌⊎◌, slice_get}
use Rattle.std.proofs.lemmas.Option.{slice_get_within}
use Rattle.aw_list.proofs.Everyday.{get_within as name_at}
use Rattle.aw_term.specs.Names.{Ref}
use Rattle.aw_store.specs.Equations.{Same, Map, find}
use Rattle.aw_store.specs.Chase.{Chased, Found, Missing, Round, chase_on, chase_in, chase}
use Rattle.aw_store.specs.ChaseView.{IsChasedTo}
use Rattle.aw_store.specs.declared.facts.Chase.{Chase}
use Rattle.aw_store.specs.declared.facts.Chase.TheVariants as answer
use Rattle.aw_store.proofs.Ends.{At_body, At_missing, follows}
use Rattle.aw_store.proofs.ChaseEnds.{ends-chase, chase_in-ends, round-in}
use Rattle.aw_print.specs.declared.ends.Ends.{Ends}
use Rattle.aw_print.specs.Ends.{AreEnds, Keeps, KeepsNone, EndsAt, NamesNext, end_at}

-- a chase that goes on with one that goes round goes round
round_on : (k : Map) (m : ℕ) (r s : Ref) → find k r ≡ Some (Same s) → chase k s ≡ Round → chase_in m k r ≡ Round
round_on k zero r s f e = ap (chase_on (λ x. Round) r) f
round_on k (suc m) r s f e = ap (chase_on (chase_in m k) r) f ∙ round-in k m s e

-- the chase from a reference ends where it ends from the one that its equation names
pub chase_same : (k : Map) (r s : Ref) → find k r ≡ Some (Same s) → chase k r ≡ chase k s
chase_same k r s f = cases (chase k s) refl
  where
    cases : (c : Chased) → chase k s ≡ c → chase k r ≡ chase k s
    cases (Found h rs) e = let (n, d) = chase_in-ends k (At_body h rs) (length k) s e in ends-chase k (At_body h rs) (follows f d) ∙ sym e
    cases (Missing t) e = let (n, d) = chase_in-ends k (At_missing t) (length k) s e in ends-chase k (At_missing t) (follows f d) ∙ sym e
    cases Round e = round_on k (length k) r s f e ∙ sym e

-- an end, told of another slot from which the chase comes to the same
told : (k : Map) (names : List Ref) (from to : ℕ) (c : Chased) (end : Chase) → IsChasedTo k names from c end → IsChasedTo k names to c (end_at to end)
told k names from to (Found h rs) (answer.Found at) w = w
told k names from to (Found h rs) (answer.Missing at) w = elim w [ ]
told k names from to (Found h rs) (answer.Circle at) w = elim w [ ]
told k names from to (Missing r) (answer.Found at) w = elim w [ ]
told k names from to (Missing r) (answer.Missing at) w = w
told k names from to (Missing r) (answer.Circle at) w = elim w [ ]
told k names from to Round (answer.Found at) w = elim w [ ]
told k names from to Round (answer.Missing at) w = elim w [ ]
told k names from to Round (answer.Circle at) w = refl

told_twice : (from to : ℕ) (end : Chase) → end_at to (end_at from end) ≡ end_at to end
told_twice from to (answer.Found at) = refl
told_twice from to (answer.Missing at) = refl
told_twice from to (answer.Circle at) = refl

-- where a chase ends, told of its own slot
pub own_end : (k : Map) (names : List Ref) (slot : ℕ) (end : Chase) → EndsAt k names slot end → EndsAt k names slot (end_at slot end)
own_end k names slot end w = λ r e. told k names slot slot (chase k r) end (w r e)

-- the slot that an equation names is one of the store
pub next_live : (k : Map) (names : List Ref) (at next : ℕ) → at < length names → NamesNext k names at next → next < length names
next_live k names at next l w =
    let (r, e) = name_at names at l in
    let (s, f, g) = w r e in
    slice_get_within names next s g

-- a step back
pub end_before : (k : Map) (names : List Ref) (at next : ℕ) (end : Chase) → NamesNext k names at next → EndsAt k names next end → EndsAt k names at (end_at at end)
end_before k names at next end w h = λ r e.
    let (s, f, g) = w r e in
    subst (λ c. IsChasedTo k names at c (end_at at end)) (sym (chase_same k r s f)) (told k names next at (chase k s) end (h s g))

-- a step on
pub end_behind : (k : Map) (names : List Ref) (at next : ℕ) (end : Chase) → at < length names → NamesNext k names at next → EndsAt k names at (end_at at end) → EndsAt k names next (end_at next end)
end_behind k names at next end l w h = λ s e.
    let (r, d) = name_at names at l in
    let (q, f, g) = w r d in
    let same : q ≡ s = some_is (sym g ∙ e) in
    let on : chase k r ≡ chase k s = chase_same k r q f ∙ ap (chase k) same in
    subst (IsChasedTo k names next (chase k s)) (told_twice at next end)
    (told k names at next (chase k s) (end_at at end) (subst (λ c. IsChasedTo k names at c (end_at at end)) on (h r d)))
  where
    some_is : {A : Type 0} {x y : A} → Some x ≡ Some y → x ≡ y
    some_is p = cc

-- So much of a chase was followed: it ends where the chase from here does.
pub record Following (k : Map) (names : List Ref) (slot at : ℕ) : Type 0 where
  pub live : at < length names
  pub back : (end : Chase) → EndsAt k names at end → EndsAt k names slot (end_at slot end)

pub following_start : (k : Map) (names : List Ref) (slot : ℕ) → slot < length names → Following k names slot slot
following_start k names slot l = record { live = l; back = λ end w. own_end k names slot end w }

pub following_on : (k : Map) (names : List Ref) (slot at next : ℕ) → NamesNext k names at next → Following k names slot at → Following k names slot next
following_on k names slot at next w h = record {
  live = next_live k names at next h.live w;
  back = λ end e. subst (EndsAt k names slot) (told_twice at slot end) (h.back (end_at at end) (end_before k names at next end w e));
}

got_none : (xs : List (Option Chase)) (i : ℕ) (x : Chase) → xs ≡ [] → slice_get xs i ≡ Some (Some x) → ⊥
got_none [] i x e h = cc h
got_none (y ∷ ys) i x e h = cc e

-- where nothing is kept, all that is kept is so
pub none_kept : (k : Map) (names : List Ref) (ends : Ends) → KeepsNone ends → AreEnds k names ends
none_kept k names ends none = λ slot end h. absurd (got_none ends.kept.items slot end none h)

-- one end more is kept
pub ends_more : (k : Map) (names : List Ref) (old new : Ends) (at : ℕ) (last : Chase) → ((i : ℕ) (x : Chase) → Keeps new i x → ((i ≡ at) × (x ≡ last))
    ⊎ Keeps old i x) → AreEnds k names old → EndsAt k names at last → AreEnds k names new
ends_more k names old new at last h ends e = λ i x kept. elim (h i x kept) [
  | inl (p, q) ↦ subst (λ j. EndsAt k names j x) (sym p) (subst (EndsAt k names at) (sym q) e)
  | inr o ↦ ends i x o
]
