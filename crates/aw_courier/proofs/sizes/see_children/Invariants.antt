use Rattle.std.proofs.Common.{drop, map}
use Rattle.aw_grammar.specs.GrammarView.{child_of}
use Rattle.aw_term.specs.Rules as P
use Rattle.aw_term.specs.WellFormed.{Each}
use Rattle.aw_law_nodes.specs.Sizes.{TreeSized}
use Rattle.aw_courier.proofs.sizes.see_children.Given as goal

abbrev pub invariant-loop-child : goal.invariant-loop-child
invariant-loop-child l =
    Each (λ (c : P.Child). Each TreeSized c.args) (map (child_of l.g.sorts) (drop l.child-index l.children)) → Each (λ (c : P.Child). Each TreeSized c.args) (map (child_of l.g.sorts) l.children)
