use Rattle.std.proofs.Common.{◌≡◌, map, take, drop, false}
use Rattle.aw_name_index.specs.Places.{stands_again}
use Rattle.aw_grammar.proofs.copies.index_of.Given as goal

abbrev pub invariant-loop-item : goal.invariant-loop-item
invariant-loop-item g l = record {
  listed : l.index ≡ map g.T.Named.called (take l.item-index l.items);
  differ : stands_again l.index (map g.T.Named.called (drop l.item-index l.items)) ≡ false;
}
