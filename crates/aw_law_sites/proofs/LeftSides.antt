-- The left sides of equations.
use Rattle.std.proofs.Common.{◌≡◌, Bool, true, false, cond, List, [], ◌∷◌, map, Some, refl, inl, inr}
use Rattle.std.specs.Prelude.{◌⊎◌}
use Rattle.aw_list.specs.Members.{Member}
use Rattle.aw_term.specs.Names.{Ref, ref_eq}
use Rattle.aw_store.specs.Equations.{Body, Equation, Map, find}
use Rattle.aw_term.proofs.RefTests.{ref_eq-true}

abbrev pub lefts : Map → List Ref
lefts k = map (λ (e : Equation). e.left) k

find_cases : (b : Bool) (r : Ref) (e : Equation) (es : Map) (x : Body) → ref_eq r e.left ≡ b → cond b (Some e.body) (find es r) ≡ Some x → (r ≡ e.left) ⊎ (find es r ≡ Some x)
find_cases true r e es x p f = inl (ref_eq-true r e.left p)
find_cases false r e es x p f = inr f

pub find-left : (k : Map) (r : Ref) (b : Body) → find k r ≡ Some b → Member r (lefts k)
find-left [] r b e = absurd cc
find-left (q ∷ k) r b e = elim (find_cases (ref_eq r q.left) r q k b refl e) [ inl p ↦ inl p | inr f ↦ inr (find-left k r b f) ]
