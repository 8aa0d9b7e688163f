use Rattle.std.specs.Prelude.{◌-◌}
use Rattle.aw_book_join.specs.Replicas.{IsUsable}
use Rattle.aw_book.proofs.redoing.Redone.read_on.Given as goal

-- it goes on by the same grammar and types
abbrev pub invariant-events : goal.invariant-events
invariant-events g l = IsUsable l.self.replica

abbrev pub decreases-events : goal.decreases-events
decreases-events g l = l.self.records.end - l.self.records.gate
