use Rattle.std.proofs.Common.{◌≡◌, drop}
use Rattle.aw_name_index.specs.Places.{all_stand}
use Rattle.aw_name_index.proofs.index.NameIndex.contains_all.Given as goal

abbrev pub invariant-loop-name : goal.invariant-loop-name
invariant-loop-name l = all_stand (drop l.name-index l.names) l.self ≡ all_stand l.names l.self
