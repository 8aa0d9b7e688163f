use Rattle.std.specs.Prelude.{◌≡◌, ℕ, ◌-◌, List, [], Some, Ok, length}
use Rattle.aw_journal.specs.Events.{Event}
use Rattle.aw_journal.specs.Pieces.{OnlyReads}
use Rattle.aw_journal.specs.Records.{IsBehind}
use Rattle.aw_book_read.proofs.checking.count_events.Given as goal

-- the reader stands behind as many events as were counted
abbrev pub invariant-events : goal.invariant-events
invariant-events g l = record {
  only : OnlyReads {T = Unit {0}} g.P.Pages (Ok tt) l.fn.pages l.pages;
  behind : (file : List ℕ) → g.P.Pages.bytes l.fn.pages ≡ Some file → IsBehind file [] l.fn.records → (events : List Event) × IsBehind file events l.records × (l.count ≡ length events);
}

abbrev pub decreases-events : goal.decreases-events
decreases-events g l = l.records.end - l.records.gate
