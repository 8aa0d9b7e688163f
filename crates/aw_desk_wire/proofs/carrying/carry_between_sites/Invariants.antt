use Rattle.aw_desk_wire.specs.Calls.{passed_in}
use Rattle.aw_desk_wire.proofs.carrying.carry_between_sites.Given as goal

abbrev pub ghosts-carry_since : goal.ghosts-carry_since
ghosts-carry_since a = record { offices = a.wire.desks.items; passed = passed_in a.wire.calls }
