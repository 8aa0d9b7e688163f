use Rattle.std.proofs.Common.{◌≡◌, List, length, map}
use Rattle.aw_journal.specs.Events.{Event}
use Rattle.aw_law_sites.specs.Worlds as V
use Rattle.aw_term.specs.Rules.{Grammar}
use Rattle.aw_typed.specs.Types.{Types}
use Rattle.aw_book_drive.specs.Driving.{Uses}
use Rattle.aw_book_drive.specs.Joins.{Stands, AreBlocked, Goes}
use Rattle.aw_book_drive.proofs.joining.pass.Given as goal

-- some events came; or none did, and none is allowed of the journals so far
abbrev pub invariant-loop-role : goal.invariant-loop-role
invariant-loop-role g l = record {
  accepted : l.joined.driver.world.accepted.now ≡ l.initial.joined.driver.world.accepted.now;
  typed : l.joined.driver.typed.now ≡ l.initial.joined.driver.typed.now;
  loads : l.joined.driver.world.loads ≡ l.initial.joined.driver.world.loads;
  lanes : length l.joined.lanes.items ≡ length l.initial.joined.lanes.items;
  many : length l.sources ≡ length l.initial.sources;
  told : map g.S.EventSource.faults l.sources ≡ map g.S.EventSource.faults l.initial.sources;
  goes : (t : Types) (d : Grammar) → Uses l.initial.joined.driver t d → (firsts : List g.row.S.Denot) (came : List (List Event)) (moves : List V.Move) →
      Stands g.W.Workspace g.S.EventSource.gives t d firsts l.initial.joined l.initial.sources came moves →
      Goes g.W.Workspace g.S.EventSource.gives t d firsts l.joined l.sources came moves (AreBlocked t d l.joined.lanes.items moves l.role) l.moved;
}
