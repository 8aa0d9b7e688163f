use Rattle.std.proofs.Common.{◌≡◌, ◌+◌, drop}
use Rattle.aw_spec.specs.TypePlaces.{place_from}
use Rattle.aw_spec.proofs.type_lines.declared_type.Given as goal

abbrev pub invariant-loop-i : goal.invariant-loop-i
invariant-loop-i l = place_from (l.i + 2) l.name (drop l.i l.names) ≡ place_from 2 l.name l.names
