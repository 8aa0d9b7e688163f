use Rattle.std.proofs.Common.{◌≡◌, ◌+◌, ◌≤◌, max, map, drop}
use Rattle.aw_grammar.specs.Written.{written_of}
use Rattle.aw_grammar.specs.Terms.{depth_of_all, symbols_in_all}
use Rattle.aw_grammar.proofs.terms.+room.Given as goal

abbrev pub invariant-room_after_all-loop-term : goal.invariant-room_after_all-loop-term
invariant-room_after_all-loop-term l = record {
  symbols : symbols_in_all (map written_of l.terms) + l.left ≡ l.room + symbols_in_all (map written_of (drop l.term-index l.term-items));
  shallow : depth_of_all (map written_of l.terms) ≤ max l.depth (depth_of_all (map written_of (drop l.term-index l.term-items)));
  among : depth_of_all (map written_of (drop l.term-index l.term-items)) ≤ depth_of_all (map written_of l.terms);
}
