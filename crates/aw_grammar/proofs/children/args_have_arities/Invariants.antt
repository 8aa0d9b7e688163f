use Rattle.std.proofs.Common.{◌≡◌, drop, map}
use Rattle.aw_grammar.specs.Written.{child_of_raw}
use Rattle.aw_grammar.specs.Terms.{args_of}
use Rattle.aw_grammar.specs.Kinds.{all_have_arities}
use Rattle.aw_grammar.proofs.children.args_have_arities.Given as goal

abbrev pub invariant-loop-child : goal.invariant-loop-child
invariant-loop-child l = all_have_arities l.grammar.cons (args_of (map child_of_raw (drop l.child-index l.child-items))) ≡ all_have_arities l.grammar.cons (args_of (map child_of_raw l.children))
