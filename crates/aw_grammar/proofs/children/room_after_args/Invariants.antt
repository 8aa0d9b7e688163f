use Rattle.std.proofs.Common.{◌≡◌, ◌+◌, ◌≤◌, max, drop, map}
use Rattle.aw_grammar.specs.Written.{child_of_raw}
use Rattle.aw_grammar.specs.Terms.{args_of, depth_of_all, symbols_in_all}
use Rattle.aw_grammar.proofs.children.room_after_args.Given as goal

abbrev pub invariant-loop-child : goal.invariant-loop-child
invariant-loop-child l = record {
  symbols : symbols_in_all (args_of (map child_of_raw l.children)) + l.left ≡ l.room + symbols_in_all (args_of (map child_of_raw (drop l.child-index l.child-items)));
  shallow : depth_of_all (args_of (map child_of_raw l.children)) ≤ max 32 (depth_of_all (args_of (map child_of_raw (drop l.child-index l.child-items))));
  among : depth_of_all (args_of (map child_of_raw (drop l.child-index l.child-items))) ≤ depth_of_all (args_of (map child_of_raw l.children));
}
