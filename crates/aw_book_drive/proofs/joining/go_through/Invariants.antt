use Rattle.std.proofs.Common.{◌≡◌, List, length, map}
use Rattle.aw_journal.specs.Events.{Event}
use Rattle.aw_law_sites.specs.Worlds as V
use Rattle.aw_term.specs.Rules.{Grammar}
use Rattle.aw_typed.specs.Types.{Types}
use Rattle.aw_book_drive.specs.Driving.{Uses}
use Rattle.aw_book_drive.specs.Joins.{Stands, GoesOn}
use Rattle.aw_book_drive.proofs.joining.go_through.Given as goal

-- some events came, or none
abbrev pub invariant-loop-number : goal.invariant-loop-number
invariant-loop-number g l = record {
  accepted : l.joined.driver.world.accepted.now ≡ l.initial.joined.driver.world.accepted.now;
  typed : l.joined.driver.typed.now ≡ l.initial.joined.driver.typed.now;
  loads : l.joined.driver.world.loads ≡ l.initial.joined.driver.world.loads;
  lanes : length l.joined.lanes.items ≡ length l.initial.joined.lanes.items;
  many : length l.sources ≡ length l.initial.sources;
  told : map g.S.EventSource.faults l.sources ≡ map g.S.EventSource.faults l.initial.sources;
  goes : (t : Types) (d : Grammar) → Uses l.initial.joined.driver t d → (firsts : List g.row.S.Denot) (came : List (List Event)) (moves : List V.Move) →
      Stands g.W.Workspace g.S.EventSource.gives t d firsts l.initial.joined l.initial.sources came moves → GoesOn g.W.Workspace g.S.EventSource.gives t d firsts l.joined l.sources;
}
