-- A guard waits only for a reference that has no equation; and how a rule stands by what its guard gives.
use Rattle.std.proofs.Common.{◌≡◌, ℕ, zero, suc, ◌⊎◌, inl, inr, Bool, true, false, cond, List, [], ◌∷◌, length, Option, Some, None, slice_get, refl, sym, ap, ◌∙◌}
use Rattle.std.specs.Prelude.{nat_eq, ◌&&◌, option_and_then}
use Rattle.std.proofs.lemmas.Bool.{lt-ltb}
use Rattle.aw_term.specs.Trees.{Head, Leaf, Made, Trees, Nil, More, count, head_eq}
use Rattle.aw_term.specs.Names.{Ref}
use Rattle.aw_term.specs.Rules as T
use Rattle.aw_term.specs.Matching.{Matched, Yes, Waits, Differs, Circle, and_then, under}
use Rattle.aw_store.specs.Equations.{Body, Same, Is, Map, find}
use Rattle.aw_store.specs.Chase.{Chased, Found, Missing, Round, chase, chase_in, chase_on}
use Rattle.aw_store.specs.NamedRefs.{body_at}
use Rattle.aw_apply.specs.Guard.{guard_end, guard, guard_parts, guard_all}
use Rattle.aw_apply.specs.GuardView.{guard_of}
use Rattle.aw_apply.specs.Named.{as_named}
use Rattle.aw_apply.specs.Telling.{IsLive}
use Rattle.aw_apply.specs.declared.guard.Guard.{Guard}
use Rattle.aw_apply.specs.declared.guard.Guard.TheVariants as given
use Rattle.aw_standing.specs.declared.record.Stands.TheVariants as stands
use Rattle.aw_standing.specs.Standings.{guard_stands}
use Rattle.aw_standing.specs.Records.{has_live}
use Rattle.aw_standing.specs.Tested.{LacksBody}

module _ (k : Map) (s : Ref) where
  missing_on : (go : Ref → Chased) (r : Ref) (o : Option Body) → find k r ≡ o → ((q : Ref) → go q ≡ Missing s → find k s ≡ None) → chase_on go r o ≡ Missing s → find k s ≡ None
  missing_on go r None f on e = let same : r ≡ s = cc in ap (find k) (sym same) ∙ f
  missing_on go r (Some (Is h rs)) f on e = absurd cc
  missing_on go r (Some (Same q)) f on e = on q e

  pub missing_in : (m : ℕ) (r : Ref) → chase_in m k r ≡ Missing s → find k s ≡ None
  missing_in zero r e = missing_on (λ q. Round) r (find k r) refl (λ q f. absurd cc) e
  missing_in (suc m) r e = missing_on (chase_in m k) r (find k r) refl (missing_in m) e

  one_waits : (m n : Matched Ref Ref) → and_then m n ≡ Waits s → (m ≡ Waits s) ⊎ (n ≡ Waits s)
  one_waits (Yes xs) (Yes ys) e = absurd cc
  one_waits (Yes xs) (Waits r) e = inr e
  one_waits (Yes xs) (Differs p) e = absurd cc
  one_waits (Yes xs) (Circle r) e = absurd cc
  one_waits (Waits r) n e = inl e
  one_waits (Differs p) n e = absurd cc
  one_waits (Circle r) n e = absurd cc

  under_waits : (i : ℕ) (m : Matched Ref Ref) → under i m ≡ Waits s → m ≡ Waits s
  under_waits i (Yes xs) e = absurd cc
  under_waits i (Waits r) e = e
  under_waits i (Differs p) e = absurd cc
  under_waits i (Circle r) e = absurd cc

  both_wait : (i : ℕ) (m n : Matched Ref Ref) → (m ≡ Waits s → find k s ≡ None) → (n ≡ Waits s → find k s ≡ None) → and_then (under i m) n ≡ Waits s → find k s ≡ None
  both_wait i m n f g e = by (one_waits (under i m) n e)
    where
      by : (under i m ≡ Waits s) ⊎ (n ≡ Waits s) → find k s ≡ None
      by (inl a) = f (under_waits i m a)
      by (inr b) = g b

  end_waits : (c : Chased) (go : List Ref → Matched Ref Ref) (h : Head) (n : ℕ) (r : Ref) → chase k r ≡ c → ((rs : List Ref) → go rs ≡ Waits s → find k s ≡ None) →
      guard_end c go h n r ≡ Waits s → find k s ≡ None
  end_waits (Missing q) go h n r f on e = let same : q ≡ s = cc in missing_in (length k) r (f ∙ ap Missing same)
  end_waits Round go h n r f on e = absurd cc
  end_waits (Found h' rs) go h n r f on e = by (head_eq h h' && nat_eq n (length rs)) e
    where
      by : (b : Bool) → cond b (go rs) (Differs []) ≡ Waits s → find k s ≡ None
      by true w = on rs w
      by false w = absurd cc

  mutual
    waits_one : (p : T.Term) (r : Ref) → guard k p r ≡ Waits s → find k s ≡ None
    waits_one (Leaf v) r e = absurd cc
    waits_one (Made h ps) r e = end_waits (chase k r) (guard_parts k 1 ps) h (count ps) r refl (waits_parts ps 1) e

    waits_parts : (ps : Trees ℕ) (n : ℕ) (rs : List Ref) → guard_parts k n ps rs ≡ Waits s → find k s ≡ None
    waits_parts Nil n rs e = absurd cc
    waits_parts (More p ps) n [] e = absurd cc
    waits_parts (More p ps) n (r ∷ rs) e = both_wait n (guard k p r) (guard_parts k (suc n) ps rs) (waits_one p r) (waits_parts ps (suc n) rs) e

  -- a guard waits only for what has no equation
  pub guard-waits : (n : ℕ) (ps : List T.Term) (rs : List Ref) → guard_all k n ps rs ≡ Waits s → find k s ≡ None
  guard-waits n [] rs e = absurd cc
  guard-waits n (p ∷ ps) [] e = absurd cc
  guard-waits n (p ∷ ps) (r ∷ rs) e = both_wait n (guard k p r) (guard_all k (suc n) ps rs) (waits_one p r) (guard-waits (suc n) ps rs) e

-- where it waits, no equation says what it waits for
pub stands_lacks : (k : Map) (names : List Ref) (ps : List T.Term) (rs : List Ref) (d : Bool) (w : Guard) → guard_of names w ≡ as_named (guard_all k 1 ps rs) → LacksBody k names (guard_stands d w)
stands_lacks k names ps rs d w e slot s = by w s e (guard_all k 1 ps rs) refl
  where
    yes_waits : (b : Bool) → cond b stands.TooDeep stands.Ready ≡ stands.Waits slot → ⊥
    yes_waits true e = absurd cc
    yes_waits false e = absurd cc

    on : (m : Matched Ref Ref) → Waits (slice_get names slot) ≡ as_named m → guard_all k 1 ps rs ≡ m → body_at k names slot ≡ None
    on (Yes xs) e f = absurd cc
    on (Differs p) e f = absurd cc
    on (Circle r) e f = absurd cc
    on (Waits r) e f = let here : slice_get names slot ≡ Some r = cc in ap (option_and_then (find k)) here ∙ guard-waits k r 1 ps rs f

    by : (w : Guard) → guard_stands d w ≡ stands.Waits slot → guard_of names w ≡ as_named (guard_all k 1 ps rs) → (m : Matched Ref Ref) → guard_all k 1 ps rs ≡ m → body_at k names slot ≡ None
    by (given.Yes bound) s e m f = absurd (yes_waits d s)
    by (given.Differs place) s e m f = absurd cc
    by (given.Circle at) s e m f = absurd cc
    by (given.Waits at) s e m f =
        let same : at ≡ slot = cc in
        on m (ap (λ z. Waits (slice_get names z)) (sym same) ∙ e ∙ ap as_named f) f

-- the slots of a guard are live
pub stands_live : (names : List Ref) (d : Bool) (w : Guard) → IsLive names w → has_live (length names) (guard_stands d w) ≡ true
stands_live names d (given.Yes bound) l = by d
  where
    by : (b : Bool) → has_live (length names) (cond b stands.TooDeep stands.Ready) ≡ true
    by true = refl
    by false = refl
stands_live names d (given.Waits slot) l = lt-ltb slot (length names) l
stands_live names d (given.Differs place) l = refl
stands_live names d (given.Circle slot) l = lt-ltb slot (length names) l
