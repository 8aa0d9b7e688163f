use Rattle.std.proofs.Common.{◌≡◌, drop, map}
use Rattle.aw_grammar.specs.Written.{child_of_raw}
use Rattle.aw_grammar.specs.Kinds.{children_fit}
use Rattle.aw_grammar.proofs.children.children_fit.Given as goal

abbrev pub invariant-loop-child : goal.invariant-loop-child
invariant-loop-child l = children_fit l.grammar.sorts (map child_of_raw (drop l.child-index l.child-items)) ≡ children_fit l.grammar.sorts (map child_of_raw l.children)
