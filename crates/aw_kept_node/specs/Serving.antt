-- What serving a kept workspace leaves at each exit.
use Rattle.std.specs.Prelude.{◌≡◌, ◌⊎◌, ℕ, ◌<◌, ◌≤◌, List, IsTrue, false, length}
use Rattle.aw_out.specs.Causes.{Rose}
use Rattle.aw_out.specs.declared.edge.Wire as wires
use Rattle.aw_law_sites.specs.Sites.{Site}
use Rattle.aw_session.specs.Sessions.{IsServing, IsUnopened, IsCutOff}
use Rattle.aw_session.specs.declared.log.SessionLog.{SessionLog}
use Rattle.aw_disk.specs.Disk.{LeavesOnly}
use Rattle.aw_disk.specs.declared.edge.Disk as disks
use Rattle.aw_journal.specs.Events.{Event}
use Rattle.aw_journal.specs.EventView.{events_seen}
use Rattle.aw_journal.specs.Format.{events_of, has_head, end_of_head}
use Rattle.aw_journal.specs.Opens.{IsForeign, IsSameJournal, IsOldOrSame, AllOldOrAllSame, FirstSync, OldUntilSynced}
use Rattle.aw_journal.specs.declared.journal.AppendFault.{AppendFault}
use Rattle.aw_journal.specs.declared.journal.AppendFault.TheVariants as append
use Rattle.aw_node.specs.TypedNodes.{Rules}
use Rattle.aw_kept_node.specs.Exits.{IsLeft, IsWithin, Origin, Stands, Halts}
use Rattle.aw_kept_node.specs.KeptEvents.{AreKept, IsFirstBad}
use Rattle.aw_kept_node.specs.KeptSites.{KeptSite, Standing, standing, reopened, with_event, IsMadeOf}
use Rattle.aw_kept_node.specs.Replying.{IsSafeSince, RepliesSafely, LeavesInHand}
use Rattle.aw_journal.specs.Journal.{Kept, IsSettled}
use Rattle.aw_session.specs.declared.serving.Stopped.{Stopped}
use Rattle.aw_session.specs.declared.serving.Stopped.TheVariants as stopped
use Rattle.aw_kept_node.specs.declared.node.Unanswered.{Unanswered}
use Rattle.aw_kept_node.specs.declared.fault.KeptFault.{KeptFault}
use Rattle.aw_kept_node.specs.declared.fault.KeptFault.TheVariants.{NetFault, DiskFault, BadHead, BadEvent, Full, NoMemory}

-- the most bytes that a journal may have
abbrev pub kept_limit : ℕ
kept_limit = 1099511627776

-- where a kept workspace begins to be served
abbrev pub begun_at : {D : Type 0} → Rules → Site → ℕ → List ℕ → List Event → D → Origin D
begun_at {D} r s role text events old = record { rules = r; start = s; role = role; text = text; limit = kept_limit; first = events; disk = old }

-- The journal was reopened with these events. Where the disk tells its bytes they are those of the file, no other head stands there, and a new head has
-- room.
pub record IsReopened {D : Type 0} (d : disks.Ghosts D) (role : ℕ) (text : List ℕ) (old : D) (events : List Event) : Type 0 where
  pub are_read : IsTrue (d.tells old) → events ≡ events_of (d.seen old)
  pub own_head : IsTrue (d.tells old) → IsForeign role text (d.seen old) → ⊥
  pub head_fits : IsTrue (d.tells old) → has_head (d.seen old) ≡ false → end_of_head (length text) ≤ kept_limit

-- The journal was reopened at this disk, which was the other before, and nothing was added to it.
pub record WasReopened {D : Type 0} (d : disks.Ghosts D) (role : ℕ) (text : List ℕ) (old new : D) (j : Kept) : Type 0 where
  pub opened : IsReopened d role text old (events_seen j.events)
  pub same_role : j.role ≡ role
  pub same_text : j.text ≡ text
  pub same_limit : j.limit ≡ kept_limit
  pub settled : IsTrue (d.tells old) → IsSettled d.seen d.may_leave new j
  pub moments : IsTrue (d.tells old) → LeavesOnly d.moment d.left_since old new (IsOldOrSame role text (d.may_leave old) (d.seen old))
  pub first_sync : IsTrue (d.tells old) → FirstSync d (IsSameJournal role text (d.seen old)) old new
  pub images : IsTrue (d.tells old) → AllOldOrAllSame role text (d.may_leave old) (d.seen old) (d.may_leave new)
  pub reads : IsTrue (d.tells old) → IsSameJournal role text (d.seen old) (d.seen new)
  pub tells : d.tells new ≡ d.tells old
  pub never_falls : d.faults old ≤ d.faults new

-- The events of the journal made a site of the first one, each of them one when it came, and from this moment on no crash loses them. From there the
-- sessions of the log were served: each frame was answered at a moment since which no crash loses its event, and its reply is written behind those of the
-- frames before. The disk has the events of the site that they left.
pub record IsKeptServing {W D : Type 0} (w : wires.Ghosts W) (d : disks.Ghosts D) (r : Rules) (role : ℕ) (text : List ℕ) (s : Site) (u v : W) (old new : D) (log : List SessionLog) : Type 0 where
  pub events : List Event
  pub opened : IsReopened d role text old events
  pub kept : AreKept r s events
  pub opened_at : ℕ
  pub after : Standing
  pub safe : IsTrue (d.tells old) → IsSafeSince d (begun_at r s role text events old) new after.kept.events opened_at events
  pub served : IsServing (RepliesSafely d (begun_at r s role text events old) new after.kept.events) w.content w.faults w.failed_openings role
      (standing (reopened r s events) opened_at) after u v log
  pub made : IsMadeOf r s after.kept
  pub within : IsWithin role text kept_limit events after.kept.events
  pub left : IsTrue (d.tells old) → IsLeft d (begun_at r s role text events old) after.kept.events after.kept.events new

-- so sessions were served, and then none could be opened
pub record IsKeptUnopened {W D : Type 0} (w : wires.Ghosts W) (d : disks.Ghosts D) (r : Rules) (role : ℕ) (text : List ℕ) (s : Site) (u v : W) (old new : D) : Type 0 where
  pub events : List Event
  pub opened : IsReopened d role text old events
  pub kept : AreKept r s events
  pub opened_at : ℕ
  pub after : Standing
  pub safe : IsTrue (d.tells old) → IsSafeSince d (begun_at r s role text events old) new after.kept.events opened_at events
  pub served : IsUnopened (RepliesSafely d (begun_at r s role text events old) new after.kept.events) w.content w.failed_openings role
      (standing (reopened r s events) opened_at) after u v
  pub made : IsMadeOf r s after.kept
  pub within : IsWithin role text kept_limit events after.kept.events
  pub left : IsTrue (d.tells old) → IsLeft d (begun_at r s role text events old) after.kept.events after.kept.events new

-- So sessions were served, and then a frame got no reply, whose event is in hand, or memory ran out before one was there.
pub record IsKeptCutOff {W D : Type 0} (w : wires.Ghosts W) (d : disks.Ghosts D) (r : Rules) (role : ℕ) (text : List ℕ) (s : Site) (u v : W) (old new : D) (fault : AppendFault) : Type 0 where
  pub events : List Event
  pub opened : IsReopened d role text old events
  pub kept : AreKept r s events
  pub opened_at : ℕ
  pub after : Standing
  pub safe : IsTrue (d.tells old) → IsSafeSince d (begun_at r s role text events old) new (with_event after.kept.events after.in_hand) opened_at events
  pub served : IsCutOff {F = Unit {0}} (RepliesSafely d (begun_at r s role text events old) new (with_event after.kept.events after.in_hand)) (LeavesInHand r) w.content role
      (standing (reopened r s events) opened_at) after u v tt
  pub halted : Halts d (begun_at r s role text events old) new after fault

-- Serving never began. Until the first sync is done, a crash leaves a file that could be there before, and from then on one with the same events and no
-- new head.
pub record IsNotBegun {W D : Type 0} (d : disks.Ghosts D) (role : ℕ) (text : List ℕ) (u v : W) (old new : D) : Type 0 where
  pub same : v ≡ u
  pub moments : IsTrue (d.tells old) → LeavesOnly d.moment d.left_since old new (IsOldOrSame role text (d.may_leave old) (d.seen old))
  pub first_sync : IsTrue (d.tells old) → OldUntilSynced d (IsSameJournal role text (d.seen old)) old new
  pub images : IsTrue (d.tells old) → AllOldOrAllSame role text (d.may_leave old) (d.seen old) (d.may_leave new)
  pub reads : IsTrue (d.tells old) → IsSameJournal role text (d.seen old) (d.seen new)

-- the journal was reopened, and the event of this number is the first that is none
pub record IsBadEvent {D : Type 0} (d : disks.Ghosts D) (r : Rules) (role : ℕ) (text : List ℕ) (s : Site) (old : D) (number : ℕ) : Type 0 where
  pub events : List Event
  pub opened : IsReopened d role text old events
  pub first_bad : IsFirstBad r s events number

-- A head that is to be written has no room.
abbrev pub HasNoRoom : {D : Type 0} → disks.Ghosts D → List ℕ → D → Type 0
HasNoRoom {D} d text old = IsTrue (d.tells old) → (has_head (d.seen old) ≡ false) × (kept_limit < end_of_head (length text))

-- why no further session was served
abbrev pub StopsKept : {W D : Type 0} → wires.Ghosts W → disks.Ghosts D → Rules → ℕ → List ℕ → Site → W → W → D → D → KeptFault → Type 0
StopsKept {W} {D} w d r role text s u v old new NetFault = IsKeptUnopened w d r role text s u v old new
StopsKept {W} {D} w d r role text s u v old new DiskFault =
    Rose (d.faults old) (d.faults new) × (IsNotBegun d role text u v old new ⊎ IsKeptCutOff w d r role text s u v old new append.DiskFault)
StopsKept {W} {D} w d r role text s u v old new BadHead = IsNotBegun d role text u v old new × (IsTrue (d.tells old) → IsForeign role text (d.seen old))
StopsKept {W} {D} w d r role text s u v old new (BadEvent number) = IsNotBegun d role text u v old new × IsBadEvent d r role text s old number
StopsKept {W} {D} w d r role text s u v old new Full =
    (IsNotBegun d role text u v old new × HasNoRoom d text old) ⊎ IsKeptCutOff w d r role text s u v old new append.Full
StopsKept {W} {D} w d r role text s u v old new NoMemory = IsNotBegun d role text u v old new ⊎ IsKeptCutOff w d r role text s u v old new append.NoMemory

-- a node went on answering from this site and this moment, and stands then at the other site
pub record GoesOn {W D : Type 0} (w : wires.Ghosts W) (d : disks.Ghosts D) (o : Origin D) (k : KeptSite) (moment : ℕ) (u v : W)
    (shows : Site → Type 0) (j : Kept) (now : D) (log : List SessionLog) : Type 0 where
  pub after : Standing
  pub safe : IsTrue (d.tells o.disk) → IsSafeSince d o now after.kept.events moment k.events
  pub served : IsServing (RepliesSafely d o now after.kept.events) w.content w.faults w.failed_openings o.role (standing k moment) after u v log
  pub stands : Stands d o shows j now after.kept

-- so a node went on, and then no session could be opened
pub record EndsUnopened {W D : Type 0} (w : wires.Ghosts W) (d : disks.Ghosts D) (o : Origin D) (k : KeptSite) (moment : ℕ) (u v : W) (shows : Site → Type 0) (j : Kept) (now : D) : Type 0 where
  pub after : Standing
  pub safe : IsTrue (d.tells o.disk) → IsSafeSince d o now after.kept.events moment k.events
  pub served : IsUnopened (RepliesSafely d o now after.kept.events) w.content w.failed_openings o.role (standing k moment) after u v
  pub stands : Stands d o shows j now after.kept

-- so a node went on, and then a frame got no reply
pub record EndsCutOff {W D : Type 0} (w : wires.Ghosts W) (d : disks.Ghosts D) (o : Origin D) (k : KeptSite) (moment : ℕ) (u v : W) (now : D) (fault : AppendFault) : Type 0 where
  pub after : Standing
  pub safe : IsTrue (d.tells o.disk) → IsSafeSince d o now (with_event after.kept.events after.in_hand) moment k.events
  pub served : IsCutOff {F = Unit {0}} (RepliesSafely d o now (with_event after.kept.events after.in_hand)) (LeavesInHand o.rules) w.content o.role (standing k moment) after u v tt
  pub halted : Halts d o now after fault

-- a node stopped: no session could be opened, or a frame got no reply
abbrev pub StopsNode : {W D : Type 0} → wires.Ghosts W → disks.Ghosts D → Origin D → KeptSite → ℕ → W → W → (Site → Type 0) → Kept → D → AppendFault → Stopped Unanswered → Type 0
StopsNode {W} {D} w d o k moment u v shows j now fault stopped.NetFault = EndsUnopened w d o k moment u v shows j now
StopsNode {W} {D} w d o k moment u v shows j now fault (stopped.Node e) = EndsCutOff w d o k moment u v now fault
