use Rattle.std.specs.Prelude.{◌-◌}
use Rattle.aw_book.proofs.events.write_events.Given as goal

-- any number of events were read
abbrev pub invariant-events : goal.invariant-events
invariant-events g l = Unit {0}

abbrev pub decreases-events : goal.decreases-events
decreases-events g l = l.records.end - l.records.gate
