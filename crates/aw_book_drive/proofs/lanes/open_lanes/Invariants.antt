use Rattle.std.proofs.Common.{◌≡◌, ℕ, ◌<◌, ◌≤◌, [], length, map, Some}
use Rattle.std.specs.Prelude.{slice_get}
use Rattle.aw_book_drive.specs.Lanes.{IsLane}
use Rattle.aw_book_drive.specs.declared.lanes.Lane.{Lane}
use Rattle.aw_book_drive.proofs.lanes.open_lanes.Given as goal

-- the sources so far were read once, and the others were not
abbrev pub invariant-loop-role : goal.invariant-loop-role
invariant-loop-role g l = record {
  many : length l.sources ≡ length l.initial.sources;
  within : l.role ≤ length l.initial.sources;
  count : length l.lanes.items ≡ l.role;
  told : map g.S.EventSource.faults l.sources ≡ map g.S.EventSource.faults l.initial.sources;
  others : (r : ℕ) → l.role ≤ r → slice_get l.sources r ≡ slice_get l.initial.sources r;
  each : (r : ℕ) (s source : g.row.S.Denot) (lane : Lane) → r < l.role → slice_get l.initial.sources r ≡ Some s → slice_get l.sources r ≡ Some source → slice_get l.lanes.items r ≡ Some lane →
      IsLane g.S.EventSource.gives (g.S.EventSource.gives s) source lane [];
}
