-- Kept nodes that serve sessions and crash, as a system.
use Rattle.std.specs.Prelude.{◌≡◌, ℕ, ◌<◌, Bool, List, [], ◌∷◌, ◌++◌, ◌&&◌, if◌then◌else◌, IsTrue, map, length, nat_eq}
use Rattle.aw_term.specs.Rules.{Grammar}
use Rattle.aw_term.specs.WellFormed.{Each}
use Rattle.aw_base.specs.ChoiceFits.{choice_ok}
use Rattle.aw_typed.specs.TypeFaults.{arg_ok}
use Rattle.aw_law_sites.specs.SiteEvents.{all_events}
use Rattle.aw_law_sites.specs.Sites.{empty_site}
use Rattle.aw_law_sites.specs.Worlds.{Move, MayCome, empty_world, site_at, world_after}
use Rattle.aw_law_nodes.specs.Crashes as crashes
use Rattle.aw_law_nodes.specs.Nodes as nodes
use Rattle.aw_law_system.specs.Laws.{AreEvents}
use Rattle.aw_law_system.specs.Systems as systems
use Rattle.aw_law_system.specs.Systems.{Extent, Unwritten, System, node_at, first_system, Act, Asks, act, system_after, IsCarried, IsRun}
use Rattle.aw_msg.specs.Frames.{Frame, Push, Choose, Pull, Listed}
use Rattle.aw_msg.specs.MessageView.{message_of}
use Rattle.aw_session.specs.Frames.{AreAnswered}
use Rattle.aw_disk.specs.declared.edge.Disk.{Ghosts}
use Rattle.aw_journal.specs.Events.{Event}
use Rattle.aw_journal.specs.Format.{events_of}
use Rattle.aw_node.specs.TypedNodes.{Rules}
use Rattle.aw_kept_node.specs.Exits.{Origin, Begins}
use Rattle.aw_kept_node.specs.KeptEvents.{AreKept}
use Rattle.aw_kept_node.specs.KeptSites.{KeptSite, Standing, reopened}
use Rattle.aw_kept_node.specs.Laws.{site_event, after_frames}
use Rattle.aw_kept_node.specs.Replying.{IsSafeSince, RepliesSafely}

-- ---- what a kept node did

-- What a node did in one session, in a run of the program: where the run began, the disk at its end, and the last events of that; where the node stood before
-- some frames and behind them, what it replied to them and how far each reply got; and the frames that it was asked behind them, of whose replies no byte
-- was written.
pub record Session (D : Type 0) : Type 0 where
  pub role : ℕ
  pub origin : Origin D
  pub end : D
  pub last : List Event
  pub start : Standing
  pub frames : List Frame
  pub replies : List (List ℕ)
  pub reached : List Extent
  pub written : Standing
  pub unwritten : List Frame

-- the node behind the session
abbrev pub stop_of : {D : Type 0} → Rules → Session D → KeptSite
stop_of r s = after_frames r s.written.kept s.unwritten

-- It began with this site, on a disk that tells its bytes, and as a kept node promises its events were safe when it began, and those of each frame before a
-- byte of the reply was written.
pub record IsSession {D : Type 0} (d : Ghosts D) (r : Rules) (from : KeptSite) (s : Session D) : Type 0 where
  pub declared : s.role < r.grammar.roles
  pub rules : s.origin.rules ≡ r
  pub starts : s.start.kept ≡ from
  pub tells : IsTrue (d.tells s.origin.disk)
  pub safe : IsSafeSince d s.origin s.end s.last s.start.moment s.start.kept.events
  pub answered : AreAnswered (RepliesSafely d s.origin s.end s.last) s.start s.frames s.replies s.written
  pub many : length s.reached ≡ length s.frames

-- What a crash left once these replies could be written: no event that the node had not, and a journal that was opened again.
pub record IsCrash {D : Type 0} (d : Ghosts D) (r : Rules) (loads : Bool) (s : Session D) (left : List ℕ) : Type 0 where
  pub since : d.left_since s.end s.written.moment left
  pub begins : Begins (events_of left) (stop_of r s).events
  pub opened : AreKept r (empty_site loads s.role) (events_of left)

-- a session; or one at whose end or before it the node crashed, with what was left
pub data Deed (D : Type 0) : Type 0 where
  Serves : (session : Session D) → Deed D
  Crashes : (session : Session D) → (left : List ℕ) → Deed D

-- the nodes of all roles, where that of one is set
abbrev pub put : (ℕ → KeptSite) → ℕ → KeptSite → ℕ → KeptSite
put nodes role k a = if nat_eq a role then k else nodes a

-- nothing has happened
abbrev pub first_nodes : Rules → Bool → ℕ → KeptSite
first_nodes r loads a = reopened r (empty_site loads a) []

-- the nodes behind a deed: after a crash that one is what the events that were left make of an empty site
abbrev pub after_deed : {D : Type 0} → Rules → Bool → (ℕ → KeptSite) → Deed D → ℕ → KeptSite
after_deed r loads nodes (Serves s) = put nodes s.role (stop_of r s)
after_deed r loads nodes (Crashes s left) = put nodes s.role (reopened r (empty_site loads s.role) (events_of left))

-- and behind some
abbrev pub after_deeds : {D : Type 0} → Rules → Bool → (ℕ → KeptSite) → List (Deed D) → ℕ → KeptSite
after_deeds r loads nodes [] = nodes
after_deeds r loads nodes (x ∷ ds) = after_deeds r loads (after_deed r loads nodes x) ds

-- a kept node did it
abbrev pub IsDeed : {D : Type 0} → Ghosts D → Rules → Bool → (ℕ → KeptSite) → Deed D → Type 0
IsDeed d r loads nodes (Serves s) = IsSession d r (nodes s.role) s
IsDeed d r loads nodes (Crashes s left) = IsSession d r (nodes s.role) s × IsCrash d r loads s left

-- and each of these in turn
abbrev pub AreDeeds : {D : Type 0} → Ghosts D → Rules → Bool → (ℕ → KeptSite) → List (Deed D) → Type 0
AreDeeds d r loads nodes [] = Unit {0}
AreDeeds d r loads nodes (x ∷ ds) = IsDeed d r loads nodes x × AreDeeds d r loads (after_deed r loads nodes x) ds

-- ---- in a system

-- a frame of the program as one of a system; a choice that does not fit the grammar or its types counts as a question, and changes as little
abbrev pub frame_in : Rules → Frame → nodes.Frame
frame_in r (Push m) = nodes.Push (message_of r.grammar m)
frame_in r (Choose c) = if choice_ok r.grammar c && arg_ok r.types r.grammar c then nodes.Choose c else nodes.Listed 0
frame_in r (Pull k) = nodes.Pull k
frame_in r (Listed k) = nodes.Listed k

-- a kept site as a node of a system
abbrev pub node_in : Rules → KeptSite → crashes.Kept
node_in r k = record { site = k.site; events = map (site_event r) k.events }

-- frames that were asked of a role, with how far the reply to each got
abbrev pub asked_of : Rules → ℕ → List Frame → List Extent → List Act
asked_of r role [] xs = []
asked_of r role (f ∷ fs) [] = []
asked_of r role (f ∷ fs) (x ∷ xs) = Asks role (frame_in r f) x ∷ asked_of r role fs xs

-- no byte of any reply was written
abbrev pub none_of : List Frame → List Extent
none_of fs = map (λ f. Unwritten) fs

-- a session
abbrev pub session_acts : {D : Type 0} → Rules → Session D → List Act
session_acts r s = asked_of r s.role s.frames s.reached ++ asked_of r s.role s.unwritten (none_of s.unwritten)

-- a deed
abbrev pub deed_acts : {D : Type 0} → Rules → Deed D → List Act
deed_acts r (Serves s) = session_acts r s
deed_acts r (Crashes s left) = session_acts r s ++ systems.Crashes s.role (length (events_of left)) ∷ []

-- some of them
abbrev pub all_acts : {D : Type 0} → Rules → List (Deed D) → List Act
all_acts r [] = []
all_acts r (x ∷ ds) = deed_acts r x ++ all_acts r ds

-- only messages that somebody heard are pushed; nothing is asked of a crash
abbrev pub AreCarried : Grammar → Bool → System → List Act → Type 0
AreCarried g loads u [] = Unit {0}
AreCarried g loads u (Asks a f x ∷ as_) = IsCarried u f × AreCarried g loads (act g loads u (Asks a f x)) as_
AreCarried g loads u (systems.Crashes a n ∷ as_) = AreCarried g loads (act g loads u (systems.Crashes a n)) as_

-- Where kept nodes did these deeds, and pushed was only what somebody had heard, it is what happened in a system: no crash took an event that is safe there; and
-- the nodes are those of the system.
abbrev pub KeptNodesAreASystem : {D : Type 0} → Ghosts D → Type 0
KeptNodesAreASystem {D} d = (r : Rules) (loads : Bool) (ds : List (Deed D)) → AreDeeds d r loads (first_nodes r loads) ds →
    AreCarried r.grammar loads (first_system r.grammar loads) (all_acts r ds) →
    IsRun r.grammar loads (all_acts r ds)
    × ((a : ℕ) → a < r.grammar.roles → node_at (system_after r.grammar loads (all_acts r ds)) a ≡ node_in r (after_deeds r loads (first_nodes r loads) ds a))

-- These moves of one world are the events of all nodes, each one's in their order, and the nodes have its sites.
pub record IsOneWorld (r : Rules) (loads : Bool) (nodes : ℕ → KeptSite) (fs : List Move) : Type 0 where
  pub may_come : Each (MayCome r.grammar) fs
  pub events : AreEvents r.grammar (empty_world r.grammar loads) fs
  pub journals : (a : ℕ) → a < r.grammar.roles → all_events r.grammar (empty_world r.grammar loads) a fs ≡ map (site_event r) (nodes a).events
  pub sites : (a : ℕ) → a < r.grammar.roles → site_at (world_after r.grammar loads fs) a ≡ (nodes a).site

-- whatever crashed, the events that the kept nodes have are those of one world
abbrev pub KeptNodesAreOneWorld : {D : Type 0} → Ghosts D → Rules → Type 0
KeptNodesAreOneWorld {D} d r = (loads : Bool) (ds : List (Deed D)) → AreDeeds d r loads (first_nodes r loads) ds →
    AreCarried r.grammar loads (first_system r.grammar loads) (all_acts r ds) →
    (fs : List Move) × IsOneWorld r loads (after_deeds r loads (first_nodes r loads) ds) fs
