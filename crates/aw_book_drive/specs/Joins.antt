-- Journals of all roles, joined as far as they fit.
use Rattle.std.specs.Prelude.{◌≡◌, ℕ, ◌<◌, Bool, true, false, List, [], map, length, Some, slice_get, option_map, IfOk}
use Rattle.std.specs.declared.result.Result.{Result}
use Rattle.aw_accept.specs.Acyclic.{Pairs}
use Rattle.aw_journal.specs.Events.{Event}
use Rattle.aw_journal.specs.EventView.{event_of}
use Rattle.aw_journal.specs.declared.payload.NodeEvent.{NodeEvent}
use Rattle.aw_law_sites.specs.SiteEvents.{SiteEvent}
use Rattle.aw_law_sites.specs.Worlds as V
use Rattle.aw_law_journals.specs.Journals.{Entry, of_role, Fits, AllFit, IsReach}
use Rattle.aw_term.specs.Rules.{Grammar, get}
use Rattle.aw_term.specs.Trees.{Never}
use Rattle.aw_typed.specs.Types.{Types}
use Rattle.aw_world.specs.MoveView.{move_of}
use Rattle.aw_world.specs.declared.workspace.Workspace.{Ghosts}
use Rattle.aw_book_drive.specs.Driving.{IsUsable, Uses, Drives, Tries}
use Rattle.aw_book_drive.specs.Journals.{site_event, journal_seen, journals_seen}
use Rattle.aw_book_drive.specs.Lanes.{IsLane}
use Rattle.aw_book_drive.specs.declared.driver.Driver.{Driver}
use Rattle.aw_book_drive.specs.declared.joining.Joined.{Joined}
use Rattle.aw_book_drive.specs.declared.fault.JoinFault.{JoinFault}
use Rattle.aw_book_drive.specs.declared.lanes.Lane.{Lane}

-- the events that came of a role's journal
abbrev pub seen_at : Grammar → List (List Event) → ℕ → List SiteEvent
seen_at g came r = journal_seen g (get [] came r)

-- these events of each role came, by these moves
abbrev pub Came : Types → Grammar → List (List Event) → List V.Move → Type 0
Came t g came moves = (xs : List Entry) × ((r : ℕ) → of_role r xs ≡ seen_at g came r) × AllFit t g (V.empty_world g true) xs moves

-- these sources could give these events of a role
abbrev pub CanGive : {S : Type 0} → (S → List Event → Type 0) → List S → ℕ → List Event → Type 0
CanGive {S} gives firsts r events = (s : S) → slice_get firsts r ≡ Some s → gives s events

-- On the way: these events of each journal came, and each source has the others.
pub record Stands {W S : Type 0} (f : Ghosts W) (gives : S → List Event → Type 0) (t : Types) (g : Grammar) (firsts : List S) (x : Joined W f) (sources : List S)
    (came : List (List Event)) (moves : List V.Move) : Type 0 where
  pub drives : Drives f x.driver (V.world_after g true moves) moves
  pub joint : Came t g came moves
  pub many : length came ≡ length sources
  pub lanes : (r : ℕ) (s : S) (lane : Lane) → slice_get sources r ≡ Some s → slice_get x.lanes.items r ≡ Some lane → IsLane gives (CanGive gives firsts r) s lane (get [] came r)

-- the next event of this journal, where there is one, is not allowed in this world
abbrev pub NoneFits : Types → Grammar → V.World → ℕ → Lane → Type 0
NoneFits t g v role lane = (event : NodeEvent) (e : V.Move) → lane.next ≡ Some event → Fits t g v role (site_event g (event_of event)) e → Never

-- the next event of a journal was allowed, and came; or there is none, or it is not allowed, and nothing came
abbrev pub TriesNext : {W : Type 0} (f : Ghosts W) → Types → Grammar → Driver W f → V.World → List V.Move → ℕ → Lane → Bool → Type 0
TriesNext f t g new v moves role lane true = (event : NodeEvent) × (lane.next ≡ Some event) × Tries f t g new v moves role (site_event g (event_of event)) true
TriesNext f t g new v moves role lane false = NoneFits t g v role lane × Drives f new v moves

-- the next event of this role's journal, where there is one, is not allowed
abbrev pub IsBlocked : Types → Grammar → List Lane → List V.Move → ℕ → Type 0
IsBlocked t g lanes moves r = (lane : Lane) → slice_get lanes r ≡ Some lane → NoneFits t g (V.world_after g true moves) r lane

-- and so it is of each journal
abbrev pub AreBlocked : Types → Grammar → List Lane → List V.Move → ℕ → Type 0
AreBlocked t g lanes moves n = (r : ℕ) → r < n → IsBlocked t g lanes moves r

-- the types were made for the grammar, and there is a source for each journal
pub record IsSet {W S : Type 0} {f : Ghosts W} (x : Joined W f) (sources : List S) : Type 0 where
  pub usable : IsUsable x.driver
  pub many : length x.lanes.items ≡ length sources

-- some events more came
abbrev pub GoesOn : {W S : Type 0} (f : Ghosts W) → (S → List Event → Type 0) → Types → Grammar → List S → Joined W f → List S → Type 0
GoesOn {W} {S} f gives t g firsts new sources = (came : List (List Event)) × (moves : List V.Move) × Stands f gives t g firsts new sources came moves

-- some events more came; or none, and this is not allowed
abbrev pub Goes : {W S : Type 0} (f : Ghosts W) → (S → List Event → Type 0) → Types → Grammar → List S → Joined W f → List S → List (List Event) → List V.Move
    → Type 0 → Bool → Type 0
Goes f gives t g firsts new sources came moves blocked true = GoesOn f gives t g firsts new sources
Goes f gives t g firsts new sources came moves blocked false = Stands f gives t g firsts new sources came moves × blocked

-- However far the journals came, some events more came; or none, and what is said of where they stand then holds.
abbrev pub GoesFrom : {W S : Type 0} (f : Ghosts W) → (S → List Event → Type 0) → Joined W f → List S → Joined W f → List S → (Types → Grammar → List V.Move → Type 0) → Result Bool JoinFault → Type 0
GoesFrom {W} {S} f gives old before new after blocked result =
    (t : Types) (g : Grammar) → Uses old.driver t g → (firsts : List S) (came : List (List Event)) (moves : List V.Move) → Stands f gives t g firsts old before came moves →
    IfOk result (Goes f gives t g firsts new after came moves (blocked t g moves))

-- some events came, and no journal's next event is allowed
pub record IsThrough {W S : Type 0} (f : Ghosts W) (gives : S → List Event → Type 0) (t : Types) (g : Grammar) (firsts : List S) (x : Joined W f) (sources : List S) : Type 0 where
  pub came : List (List Event)
  pub moves : List V.Move
  pub stands : Stands f gives t g firsts x sources came moves
  pub blocked : AreBlocked t g x.lanes.items moves (length sources)

-- how many events of each journal came
abbrev pub counts_of : {W : Type 0} {f : Ghosts W} → Joined W f → List ℕ
counts_of x = map (λ (l : Lane). l.count) x.lanes.items

-- by which moves
abbrev pub moves_of : {W : Type 0} {f : Ghosts W} → Joined W f → List V.Move
moves_of x = map move_of x.driver.moves.items

-- Some journals that the sources can have given were joined as far as they fit: no journal's next event is allowed, and that is the one that is named for it.
pub record IsJoined {W S : Type 0} (f : Ghosts W) (gives : S → List Event → Type 0) (t : Types) (g : Grammar) (sources : List S) (x : Joined W f) : Type 0 where
  pub journals : List (List Event)
  pub given : Pairs gives sources journals
  pub reach : IsReach t g (journals_seen g journals) (counts_of x) (moves_of x)
  pub drives : Drives f x.driver (V.world_after g true (moves_of x)) (moves_of x)
  pub many : length x.lanes.items ≡ length sources
  pub next : (r : ℕ) (lane : Lane) → slice_get x.lanes.items r ≡ Some lane → option_map event_of lane.next ≡ slice_get (get [] journals r) lane.count
