use Rattle.std.proofs.Common.{◌≡◌, ◌++◌, map, All}
use Rattle.std.specs.Vec.Iter.{into_iter_items}
use Rattle.aw_grammar.specs.GrammarOf.{grammar_of}
use Rattle.aw_store.specs.NamedRefs.{Grows}
use Rattle.aw_space.specs.Openings.{IsOpenable, IsReady, held_in}
use Rattle.aw_space.proofs.making.push_each.Given as goal

abbrev pub invariant-loop-node : goal.invariant-loop-node
invariant-loop-node g l = record {
  items : map held_in l.more.items ++ into_iter_items l.node-iterator ≡ l.fn.own.items;
  ready : All (IsReady (grammar_of l.grammar) (g.F.Facts.names l.facts)) l.more.items;
  rest : All (IsOpenable (grammar_of l.grammar)) (into_iter_items l.node-iterator);
  equations : g.F.Facts.map l.facts ≡ g.F.Facts.map l.fn.facts;
  names : Grows (g.F.Facts.names l.fn.facts) (g.F.Facts.names l.facts);
}
