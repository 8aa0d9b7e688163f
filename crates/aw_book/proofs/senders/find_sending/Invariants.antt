use Rattle.std.specs.Prelude.{◌≡◌, ◌-◌}
use Rattle.aw_book.proofs.senders.find_sending.Given as goal

-- any number of events were done again
abbrev pub invariant-events : goal.invariant-events
invariant-events g l = l.opened.accepted.grammar ≡ l.site.space.accepted.now.grammar

abbrev pub decreases-events : goal.decreases-events
decreases-events g l = l.records.end - l.records.gate
