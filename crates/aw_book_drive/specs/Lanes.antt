-- How far the journal of a role came.
use Rattle.std.specs.Prelude.{◌≡◌, ℕ, List, [], ◌∷◌, ◌++◌, length, None, Some, slice_get, slice_set}
use Rattle.std.specs.declared.option.Option.{Option}
use Rattle.aw_journal.specs.Events.{Event}
use Rattle.aw_journal.specs.EventView.{event_of}
use Rattle.aw_journal.specs.declared.payload.NodeEvent.{NodeEvent}
use Rattle.aw_book_drive.specs.Sources.{Gives}
use Rattle.aw_book_drive.specs.declared.lanes.Lane.{Lane}

-- these can be the events that come yet: the one that is next, and what the source gives behind it
abbrev pub ToCome : {S : Type 0} → (S → List Event → Type 0) → S → Option NodeEvent → List Event → Type 0
ToCome gives s None events = events ≡ []
ToCome gives s (Some e) events = (rest : List Event) × (events ≡ event_of e ∷ rest) × gives s rest

-- these events came, and whatever can come yet could come behind them at first
pub record IsLane {S : Type 0} (gives : S → List Event → Type 0) (first : List Event → Type 0) (s : S) (lane : Lane) (came : List Event) : Type 0 where
  pub count : lane.count ≡ length came
  pub whole : (events : List Event) → ToCome gives s lane.next events → first (came ++ events)

-- this source was read, and it gave this
pub record Reads {S : Type 0} (gives : S → List Event → Type 0) (old new : List S) (role : ℕ) (found : Option NodeEvent) : Type 0 where
  pub source : S
  pub others : new ≡ slice_set old role source
  pub given : (s : S) → slice_get old role ≡ Some s → Gives gives s source found

-- each source was read once, and nothing came yet
pub record AreFresh {S : Type 0} (gives : S → List Event → Type 0) (old new : List S) (lanes : List Lane) : Type 0 where
  pub many : length lanes ≡ length new
  pub each : (r : ℕ) (s source : S) (lane : Lane) → slice_get old r ≡ Some s → slice_get new r ≡ Some source → slice_get lanes r ≡ Some lane → IsLane gives (gives s) source lane []
