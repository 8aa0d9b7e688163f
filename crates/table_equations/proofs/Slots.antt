-- Slots that name references are slots of the store.
use Rattle.std.proofs.Common.{◌≡◌, ℕ, ◌<◌, List, length, Option, Some, IfSome, slice_get, sym, subst, arith}
use Rattle.std.proofs.lemmas.Option.{slice_get_within}
use Rattle.aw_list.proofs.Everyday.{get_within as name_at}
use Rattle.aw_term.specs.Names.{Ref}
use Rattle.aw_store.specs.Equations.{Map}
use Rattle.aw_store.specs.Chase.{Chased, Found, Missing, Round, chase}
use Rattle.aw_store.specs.ChaseView.{IsChasedTo}
use Rattle.aw_store.specs.declared.facts.Chase.TheVariants as answer
use Rattle.aw_store.specs.NamedRefs.{AreNamed}
use Rattle.aw_apply.proofs.GuardLemmas.{chased_missing}

-- where a chase ends
round_at : (k : Map) (names : List Ref) (slot start : ℕ) (x : Chased) → IsChasedTo k names slot x (answer.Circle start) → slot < length names → start < length names
round_at k names slot start (Found h parts) w l = elim w [ ]
round_at k names slot start (Missing r) w l = elim w [ ]
round_at k names slot start Round w l = omega (arith, l, w)

module _ (k : Map) (names : List Ref) (slot end : ℕ) (l : slot < length names) where
  pub missing_live : ((r : Ref) → slice_get names slot ≡ Some r → IsChasedTo k names slot (chase k r) (answer.Missing end)) → end < length names
  missing_live w =
      let n = name_at names slot l in
      let (r, e, at) = chased_missing k names slot end _ (w n.0 n.1) in
      slice_get_within names end r at

  pub round_live : ((r : Ref) → slice_get names slot ≡ Some r → IsChasedTo k names slot (chase k r) (answer.Circle end)) → end < length names
  round_live w = let n = name_at names slot l in round_at k names slot end _ (w n.0 n.1) l

pub when_some : {A : Type 0} (P : A → Type 0) (o : Option A) (x : A) → o ≡ Some x → IfSome o P → P x
when_some P o x e w = subst (λ q. IfSome q P) e w

-- the same of two lists that are one
pub named_as : (names : List Ref) (xs ys : List ℕ) (rs : List Ref) → ys ≡ xs → AreNamed names xs rs → AreNamed names ys rs
named_as names xs ys rs e w = subst (λ zs. AreNamed names zs rs) (sym e) w
