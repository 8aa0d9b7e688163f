-- Finding in two lists.
use Rattle.std.proofs.Common.{◌≡◌, Bool, true, false, cond, [], ◌∷◌, ◌++◌, Option, Some, refl}
use Rattle.std.specs.Prelude.{◌||◌, is_some}
use Rattle.aw_term.specs.Names.{Ref, ref_eq}
use Rattle.aw_store.specs.Equations.{Body, Map, find}

some_cases : (b : Bool) (x : Body) (o p : Option Body) (q : Bool) → is_some p ≡ (is_some o || q) → is_some (cond b (Some x) p) ≡ (is_some (cond b (Some x) o) || q)
some_cases true x o p q e = refl
some_cases false x o p q e = e

-- an equation stands in one of two lists
pub found_in_both : (k es : Map) (r : Ref) → is_some (find (k ++ es) r) ≡ (is_some (find k r) || is_some (find es r))
found_in_both [] es r = refl
found_in_both (e ∷ k) es r = some_cases (ref_eq r e.left) e.body (find k r) (find (k ++ es) r) (is_some (find es r)) (found_in_both k es r)
