use Rattle.std.proofs.Common.{◌≡◌, drop, map}
use Rattle.aw_grammar.specs.Written.{child_of_raw}
use Rattle.aw_grammar.specs.Kinds.{child_sorts}
use Rattle.aw_name_index.specs.Places.{all_stand}
use Rattle.aw_grammar.proofs.children.sorts_stand.Given as goal

abbrev pub invariant-loop-child : goal.invariant-loop-child
invariant-loop-child l = all_stand (child_sorts (map child_of_raw (drop l.child-index l.child-items))) l.index ≡ all_stand (child_sorts (map child_of_raw l.children)) l.index
