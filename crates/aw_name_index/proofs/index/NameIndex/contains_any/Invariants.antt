use Rattle.std.proofs.Common.{◌≡◌, drop}
use Rattle.aw_name_index.specs.Places.{any_stands}
use Rattle.aw_name_index.proofs.index.NameIndex.contains_any.Given as goal

abbrev pub invariant-loop-name : goal.invariant-loop-name
invariant-loop-name l = any_stands (drop l.name-index l.names) l.self ≡ any_stands l.names l.self
