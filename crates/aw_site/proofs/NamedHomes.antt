-- The nodes of a message whose names are valid.
use Rattle.std.proofs.Common.{◌≡◌, ℕ, zero, suc, ◌<◌, true, List, [], ◌∷◌, length, get_or, map, Option, None, Some, is_some, refl, sym, subst, arith}
use Rattle.std.proofs.lemmas.Bool.{and_parts}
use Rattle.aw_term.specs.Names.{Ref, Slot}
use Rattle.aw_term.specs.Rules.{Grammar, sort_of}
use Rattle.aw_base.specs.ChoiceFits.{slot_ok, ref_ok}
use Rattle.aw_store.specs.declared.equation.Equation.{Equation}
use Rattle.aw_store.specs.EquationView.{equation_of}
use Rattle.aw_store.specs.Equations as P
use Rattle.aw_law_sites.specs.ValidNames.{body_ok, equation_ok, equations_ok}

-- a part or a result is one of a sort
pub sort_where_slot : (g : Grammar) (o : Option ℕ) (slot : Slot) → slot_ok g o slot ≡ true → is_some o ≡ true
sort_where_slot g None slot e = absurd cc
sort_where_slot g (Some s) slot e = refl

-- the node of a valid reference is valid
pub node_of_ref : (g : Grammar) (r : Ref) → ref_ok g r ≡ true → is_some (sort_of g r.node) ≡ true
node_of_ref g r e = sort_where_slot g (sort_of g r.node) r.slot e

-- the node of the left side of a valid equation is valid
pub node_of_left : (g : Grammar) (e : P.Equation) → equation_ok g e ≡ true → is_some (sort_of g e.left.node) ≡ true
node_of_left g e ok =
    let (left, body) = and_parts (ref_ok g e.left) (body_ok g e.body) ok in
    node_of_ref g e.left left

-- each of some valid equations has a left side of a valid node
pub node_of_each : (g : Grammar) (es : List Equation) (i : ℕ) (e : Equation) → i < length es → e ≡ get_or es i e → equations_ok g (map equation_of es) ≡ true → is_some (sort_of g e.left.node) ≡ true
node_of_each g [] i e less at ok = absurd (omega arith)
node_of_each g (x ∷ xs) zero e less at ok =
    let (here, later) = and_parts (equation_ok g (equation_of x)) (equations_ok g (map equation_of xs)) ok in
    subst (λ (y : Equation). is_some (sort_of g y.left.node) ≡ true) (sym at) (node_of_left g (equation_of x) here)
node_of_each g (x ∷ xs) (suc i) e less at ok =
    let (here, later) = and_parts (equation_ok g (equation_of x)) (equations_ok g (map equation_of xs)) ok in
    node_of_each g xs i e (omega arith) at later
