use Rattle.std.proofs.Common.{◌≡◌, ◌++◌, drop, map}
use Rattle.aw_grammar.specs.Written.{child_of_raw}
use Rattle.aw_grammar.specs.Terms.{results_of}
use Rattle.aw_grammar.proofs.children.push_results.Given as goal

abbrev pub invariant-loop-child : goal.invariant-loop-child
invariant-loop-child l = l.names ++ results_of (map child_of_raw (drop l.child-index l.child-items)) ≡ l.fn.names ++ results_of (map child_of_raw l.children)
