use Rattle.std.proofs.Common.{◌≡◌, drop, map}
use Rattle.aw_grammar.specs.Written.{child_of_raw}
use Rattle.aw_grammar.specs.Terms.{results_of}
use Rattle.aw_name_index.specs.Places.{any_stands}
use Rattle.aw_grammar.proofs.children.any_result_stands.Given as goal

abbrev pub invariant-loop-child : goal.invariant-loop-child
invariant-loop-child l = any_stands (results_of (map child_of_raw (drop l.child-index l.child-items))) l.index ≡ any_stands (results_of (map child_of_raw l.children)) l.index
