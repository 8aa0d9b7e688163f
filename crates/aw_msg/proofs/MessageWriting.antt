-- Writing loads and the version that tells of them.
use Rattle.std.proofs.Common.{◌≡◌, ◌↔◌, ℕ, Bool, true, false, not, IsTrue, List, [], ◌∷◌, ◌++◌, length, map, refl, sym, ap, ◌∙◌}
use Rattle.std.specs.List.{flat_map}
use Rattle.std.proofs.lemmas.List.{length-map}
use Rattle.aw_store.specs.declared.equation.Equation.{Equation}
use Rattle.aw_store.specs.EquationView.{equation_of}
use Rattle.aw_codec.proofs.Adding.{two}
use Rattle.aw_msg.specs.Spelling.{spelled_equation, spelled_equations, spelled_load, has_some}

-- what a test for an empty list tells of a load
pub has_load_is : (b : Bool) (es : List Equation) → IsTrue b ↔ (es ≡ []) → not b ≡ has_some (map equation_of es)
has_load_is true [] h = refl
has_load_is true (e ∷ es) h = absurd (nonempty (h.0 refl))
  where
    nonempty : e ∷ es ≡ [] → ⊥
    nonempty p = cc
has_load_is false [] h = absurd (differ (h.1 refl))
  where
    differ : false ≡ true → ⊥
    differ p = cc
has_load_is false (e ∷ es) h = refl

some_spelled : (es : List Equation) (b : Bool) → IsTrue b ↔ (es ≡ []) → b ≡ false → spelled_load (map equation_of es) ≡ spelled_equations (map equation_of es)
some_spelled [] b h e = absurd (differ (sym e ∙ h.1 refl))
  where
    differ : false ≡ true → ⊥
    differ p = cc
some_spelled (x ∷ es) b h e = refl

-- the number of equations, and then the equations, add a load that has some
pub load_added : (es : List Equation) (b : Bool) (n : ℕ) (old middle new : List ℕ) → IsTrue b ↔ (es ≡ []) → b ≡ false → n ≡ length es → middle ≡ old ++ n ∷ []
    → new ≡ middle ++ flat_map spelled_equation (map equation_of es) → new ≡ old ++ spelled_load (map equation_of es)
load_added es b n old middle new h e count one all =
    two old (n ∷ []) (flat_map spelled_equation (map equation_of es)) middle new one all
    ∙ ap (λ k. old ++ (k ∷ flat_map spelled_equation (map equation_of es))) (count ∙ sym (length-map es equation_of))
    ∙ ap (λ (t : List ℕ). old ++ t) (sym (some_spelled es b h e))
