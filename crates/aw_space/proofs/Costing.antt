-- What a call and equations cost, by the program's nodes and by the plain ones.
use Rattle.std.proofs.Common.{◌≡◌, ℕ, ◌+◌, ◌≤◌, true, List, [], ◌∷◌, map, Option, Some, None, refl, ap, sym, ◌∙◌, arith, All, filter}
use Rattle.std.specs.Prelude.{option_map}
use Rattle.std.proofs.lemmas.Bool.{and_parts}
use Rattle.std.proofs.lemmas.List.Elements.{All-nil, All-cons}
use Rattle.aw_term.specs.Rules.{Grammar, sort_of}
use Rattle.aw_apply.specs.declared.making.MadeChild.{MadeChild}
use Rattle.aw_store.specs.Equations.{Equation, find}
use Rattle.aw_node_list.specs.declared.held.Held.{Held}
use Rattle.aw_node_list.specs.HeldView.{all_of}
use Rattle.aw_node_list.specs.Row.{Row}
use Rattle.aw_node_list.specs.InOrder.{place_in}
use Rattle.aw_node_list.proofs.HeldViews.{held_nowhere}
use Rattle.aw_law_sites.specs.Receiving.{add_on}
use Rattle.aw_law_sites.specs.ValidNames.{takes_as, refs_ok}
use Rattle.aw_law_sites.specs.Worklists.{site_worklist}
use Rattle.aw_standing.specs.Items.{waiting_on}
use Rattle.aw_space.specs.Children.{open_child, own_children}
use Rattle.aw_space.specs.Costs.{rules_of, call_cost, call_cost_on, learning_cost, taking_cost}
use Rattle.aw_space.specs.Missing.{missing_on, missing_node, with_node, inherited_by}
use Rattle.aw_space.specs.Openings.{IsOpenable, held_in}
use Rattle.aw_space.specs.Placings.{MayBeCalled, MayBeCalledIf, placed_call}
use Rattle.aw_space.specs.Sound.{is_own, all_own}
use Rattle.aw_space.specs.Spaces.{Space, is_home, with_call}
use Rattle.aw_term.specs.Names.{Ref}
use Rattle.aw_store.specs.NamedRefs.{all_named}
use Rattle.aw_standing.specs.declared.kept.Kept.{Kept}
use Rattle.aw_space.specs.declared.opening.Opening.{Opening}
use Rattle.aw_space.specs.TakenIn.{IsOpenableIf, IsReadyIf, tests_if, rules_if, taken_cost}
use Rattle.aw_space.proofs.Openings.{ready_named, tests_are}
use Rattle.aw_space.specs.Waking.{turns_cost}
use Rattle.aw_space.specs.declared.placing.Placing.{Placing}
use Rattle.aw_space.proofs.Called.{sort_or-zero, view_missing}

-- equations in turn cost the same, whatever was chosen
pub turns_are : (g : Grammar) (s : Space) (es : List Equation) → turns_cost g s.held s.equations es ≡ learning_cost g s es
turns_are g s [] = refl
turns_are g s (e ∷ es) = ap (λ n. waiting_on e.left (site_worklist g s.equations s.held) + n) (turns_are g (record s { equations = add_on (find s.equations e.left) s.equations e }) es)

node_cost : (g : Grammar) (p : Placing) (hs : List Held) (o : Option ℕ) → place_in p.node hs ≡ o → rules_if g (missing_on o p) ≤ call_cost g (all_of g hs) (Some (placed_call g p))
node_cost g p hs None e = omega (arith, ap (rules_of g) (sort_or-zero (sort_of g p.node)), ap (λ x. call_cost_on g x (placed_call g p)) (held_nowhere g p.node hs e))
node_cost g p hs (Some i) e = omega arith

missing_cost : (g : Grammar) (p : Option Placing) (hs : List Held) → rules_if g (missing_node p hs) ≤ call_cost g (all_of g hs) (option_map (placed_call g) p)
missing_cost g None hs = omega arith
missing_cost g (Some p) hs = node_cost g p hs (place_in p.node hs) refl

pub taking_costs : (g : Grammar) (p : Option Placing) (hs : List Held) (s : Space) (es : List Equation) → s.held ≡ all_of g hs →
    taken_cost g (missing_node p hs) hs s.equations es ≤ taking_cost g (option_map (placed_call g) p) es s
taking_costs g p hs s es is =
    let view : all_of g (with_node (missing_node p hs) hs) ≡ with_call (option_map (placed_call g) p) s.held = view_missing g p hs ∙ ap (with_call (option_map (placed_call g) p)) (sym is) in
    omega (
      arith,
      missing_cost g p hs,
      ap (λ ks. call_cost g ks (option_map (placed_call g) p)) is,
      ap (λ ks. turns_cost g ks s.equations es) view,
      turns_are g (record s { held = with_call (option_map (placed_call g) p) s.held }) es,
    )

openable_on : (g : Grammar) (role : ℕ) (p : Placing) (o : Option ℕ) → MayBeCalled g role (placed_call g p) → IsOpenableIf g (missing_on o p)
openable_on g role p None may = record { takes = (and_parts (takes_as g (sort_of g p.node) p.inherited) (refs_ok g p.inherited) may.ok).0; done = refl }
openable_on g role p (Some i) may = tt

-- the node of a call has as many references as its sort takes
pub missing_openable : (g : Grammar) (role : ℕ) (p : Option Placing) (hs : List Held) → MayBeCalledIf g role (option_map (placed_call g) p) → IsOpenableIf g (missing_node p hs)
missing_openable g role None hs may = tt
missing_openable g role (Some p) hs may = openable_on g role p (place_in p.node hs) may

open_children : (g : Grammar) (role : ℕ) (cs : List MadeChild) → all_own g role (map open_child cs) ≡ true → All (IsOpenable g) (map open_child cs)
open_children g role [] own = All-nil (IsOpenable g)
open_children g role (c ∷ cs) own =
    let parts = and_parts (is_own g role (open_child c)) (all_own g role (map open_child cs)) own in
    All-cons (IsOpenable g) (open_child c) (map open_child cs)
    (record { takes = (and_parts (is_home g role c.node) (takes_as g (sort_of g c.node) c.inherited) parts.0).1; done = refl })
    (open_children g role cs parts.1)

-- and so have the children that are held here
pub own_openable : (g : Grammar) (role : ℕ) (cs : List MadeChild) → all_own g role (own_children g role cs) ≡ true → All (IsOpenable g) (own_children g role cs)
own_openable g role cs own = open_children g role (filter (λ (c : MadeChild). is_home g role c.node) cs) own

-- ---- the node of a call, if there is one

pub ready_if_named : (g : Grammar) (names : List Ref) (held : Row) (kept : Kept) (o : Option Opening) → IsReadyIf g names held kept o → all_named names (inherited_by (option_map held_in o)) ≡ true
ready_if_named g names held kept None r = refl
ready_if_named g names held kept (Some o) r = ready_named g names o r.0

pub tests_if_are : (g : Grammar) (names : List Ref) (held : Row) (kept : Kept) (o : Option Opening) → IsReadyIf g names held kept o → tests_if o ≡ rules_if g (option_map held_in o)
tests_if_are g names held kept None r = refl
tests_if_are g names held kept (Some o) r = tests_are g names o r.0
