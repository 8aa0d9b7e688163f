-- An open node of this role has no equations.
use Rattle.std.proofs.Common.{◌≡◌, ℕ, Bool, true, false, cond, List, [], ◌∷◌, Option, Some, None, refl, ap, sym, ◌∙◌, subst}
use Rattle.std.specs.Prelude.{not, ◌||◌}
use Rattle.std.proofs.lemmas.Bool.{and_parts}
use Rattle.aw_term.specs.Names.{Node, Ref, ref_eq}
use Rattle.aw_term.specs.Rules.{Grammar}
use Rattle.aw_term.proofs.RefTests.{ref_eq-true}
use Rattle.aw_store.specs.Equations.{Body, Equation, Map, find}
use Rattle.aw_node_list.specs.declared.held.Held.{Held}
use Rattle.aw_space.specs.Sound.{all_done, is_done}
use Rattle.aw_space.specs.Spaces.{is_home}

free_cases : (b home done : Bool) (e : Equation) (later : Option Body) → (b ≡ true → home ≡ true) → (b ≡ true → done ≡ false) → (not home || done) ≡ true → later ≡ None →
    cond b (Some e.body) later ≡ None
free_cases false home done e later h d ok none = none
free_cases true home done e later h d ok none =
    let p = h refl in
    let q = d refl in
    let r : (not true || false) ≡ true = subst (λ x. (not x || false) ≡ true) p (subst (λ y. (not home || y) ≡ true) q ok) in
    absurd cc

-- an open node of this role has no equations
pub free_pending : (g : Grammar) (role : ℕ) (hs : List Held) (k : Map) (n : Node) → all_done g role hs k ≡ true → is_home g role n ≡ true → is_done n hs ≡ false → (x : Ref) →
    x.node ≡ n → find k x ≡ None
free_pending g role hs [] n all here idle x e = refl
free_pending g role hs (f ∷ fs) n all here idle x e =
    let (one, rest) = and_parts (not (is_home g role f.left.node) || is_done f.left.node hs) _ all in
    free_cases (ref_eq x f.left) (is_home g role f.left.node) (is_done f.left.node hs) f (find fs x)
    (λ t. subst (λ m. is_home g role m ≡ true) (sym e ∙ ap (λ (y : Ref). y.node) (ref_eq-true x f.left t)) here)
    (λ t. subst (λ m. is_done m hs ≡ false) (sym e ∙ ap (λ (y : Ref). y.node) (ref_eq-true x f.left t)) idle)
    one (free_pending g role hs fs n rest here idle x e)
