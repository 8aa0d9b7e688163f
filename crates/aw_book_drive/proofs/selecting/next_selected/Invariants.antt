use Rattle.std.proofs.Common.{◌≡◌, List}
use Rattle.aw_journal.specs.Events.{Event}
use Rattle.aw_book_drive.specs.Selecting.{GivesSelected}
use Rattle.aw_book_drive.proofs.selecting.next_selected.Given as goal

-- what can be given from here on could be given at first
abbrev pub invariant-loop-number : goal.invariant-loop-number
invariant-loop-number g l = record {
  back : (events : List Event) → GivesSelected g.S.EventSource.gives l.case l.source events → GivesSelected g.S.EventSource.gives l.case l.initial.source events;
  kept : g.S.EventSource.faults l.source ≡ g.S.EventSource.faults l.initial.source;
}
