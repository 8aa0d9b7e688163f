use Rattle.std.proofs.Common.{◌≡◌, ◌+◌, ◌≤◌, length, map, All}
use Rattle.std.specs.Vec.Iter.{into_iter_items}
use Rattle.aw_grammar.specs.GrammarOf.{grammar_of}
use Rattle.aw_node_list.specs.InOrder.{IsInOrder, insert_all_in, LackEach}
use Rattle.aw_standing.specs.KeptStates.{HasRoom, IsKept}
use Rattle.aw_space.specs.Openings.{IsReady, all_tests, held_in}
use Rattle.aw_space.proofs.opening.put_all_open.Given as goal

abbrev pub invariant-loop-new : goal.invariant-loop-new
invariant-loop-new g l = record {
  items : insert_all_in (map held_in (into_iter_items l.new-iterator)) l.held.items ≡ insert_all_in (map held_in l.fn.more.items) l.fn.held.items;
  lacks : LackEach (map held_in (into_iter_items l.new-iterator)) l.held.items;
  ordered : IsInOrder l.held.items;
  ready : All (IsReady (grammar_of l.grammar) (g.F.Facts.names l.facts)) (into_iter_items l.new-iterator);
  stands : IsKept (grammar_of l.grammar) l.held (g.F.Facts.map l.facts) (g.F.Facts.names l.facts) l.kept;
  place : length (into_iter_items l.new-iterator) ≤ l.held.room;
  room : HasRoom l.kept (length (into_iter_items l.new-iterator)) (all_tests (into_iter_items l.new-iterator));
  steps : l.steps + all_tests (into_iter_items l.new-iterator) ≡ l.fn.steps + all_tests l.fn.more.items;
}
