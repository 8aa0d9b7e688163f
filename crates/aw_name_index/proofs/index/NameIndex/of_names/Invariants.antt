use Rattle.std.proofs.Common.{◌≡◌, take, drop}
use Rattle.aw_name_index.specs.Places.{stands_again, has_double}
use Rattle.aw_name_index.proofs.index.NameIndex.of_names.Given as goal

abbrev pub invariant-loop-name : goal.invariant-loop-name
invariant-loop-name l = record {
  listed : l.index ≡ take l.name-index l.names;
  same : stands_again l.index (drop l.name-index l.names) ≡ has_double l.names;
}
