-- Parts that are gathered one role after the other.
use Rattle.std.proofs.Common.{◌≡◌, ℕ, suc, ◌+◌, List, [], ◌∷◌, ◌++◌, length, sym, subst, arith}
use Rattle.aw_grammar.specs.declared.grammar.Grammar.{Grammar}
use Rattle.aw_modular.specs.declared.yes.RoleYes.{RoleYes}
use Rattle.aw_modular.specs.Wholes.{ArePartsOf, IsPartOf}
use Rattle.aw_check_text.proofs.Findings.{length_more}
use Rattle.table_language.specs.Parts.{AreFirst}

-- one part more
parts_more : (g : Grammar) (k n : ℕ) (ys : List RoleYes) (y : RoleYes) → k + length ys ≡ n → ArePartsOf g k ys → IsPartOf g n y → ArePartsOf g k (ys ++ y ∷ [])
parts_more g k n [] y at are is = let e : n ≡ k = omega (arith, at) in (subst (λ m. IsPartOf g m y) e is, tt)
parts_more g k n (x ∷ xs) y at are is = (are.0, parts_more g (suc k) n xs y (omega (arith, at)) are.1 is)

pub first_more : (g : Grammar) (n : ℕ) (ys next : List RoleYes) (y : RoleYes) → AreFirst g n ys → IsPartOf g n y → next ≡ ys ++ y ∷ [] → AreFirst g (n + 1) next
first_more g n ys next y first is step =
    subst (AreFirst g (n + 1)) (sym step)
    record { parts_of = parts_more g 0 n ys y (omega (arith, first.counted)) first.parts_of is; counted = omega (arith, length_more ys y, first.counted) }
