-- What serving leaves on the disk, at an exit and at each moment before.
use Rattle.std.specs.Prelude.{◌≡◌, ◌⊎◌, ℕ, ◌+◌, ◌<◌, ◌≤◌, List, [], ◌∷◌, ◌++◌, IsTrue, length, Some}
use Rattle.aw_out.specs.Causes.{Rose}
use Rattle.aw_law_sites.specs.Sites.{Site}
use Rattle.aw_disk.specs.Disk.{LeavesOnly}
use Rattle.aw_disk.specs.declared.edge.Disk.{Ghosts}
use Rattle.aw_journal.specs.Events.{Event}
use Rattle.aw_journal.specs.EventView.{events_seen}
use Rattle.aw_journal.specs.Format.{events_of, front}
use Rattle.aw_journal.specs.Journal.{Kept}
use Rattle.aw_journal.specs.Opens.{HasEvents, IsForeign, FirstSync}
use Rattle.aw_journal.specs.declared.journal.AppendFault.{AppendFault}
use Rattle.aw_journal.specs.declared.journal.AppendFault.TheVariants.{DiskFault, Full}
use Rattle.aw_node.specs.TypedNodes.{Rules}
use Rattle.aw_kept_node.specs.KeptEvents.{AreKept}
use Rattle.aw_kept_node.specs.KeptSites.{KeptSite, Standing, IsMadeOf, with_event}

-- the list begins with these
abbrev pub Begins : List Event → List Event → Type 0
Begins xs ys = (rest : List Event) × (ys ≡ xs ++ rest)

-- a file in which no head stands but this one, whose events begin with the first ones, and with which the last ones begin
pub record IsBetween (role : ℕ) (text : List ℕ) (first last : List Event) (file : List ℕ) : Type 0 where
  pub own : IsForeign role text file → ⊥
  pub from : Begins first (events_of file)
  pub to : Begins (events_of file) last

-- the same, or a file that could be there before
abbrev pub IsOldOrBetween : (List ℕ → Type 0) → ℕ → List ℕ → List Event → List Event → List ℕ → Type 0
IsOldOrBetween was role text first last file = was file ⊎ IsBetween role text first last file

-- these events, or these and one in hand
abbrev pub IsWithOneInHand : List Event → List Event → Type 0
IsWithOneInHand events last = (last ≡ events) ⊎ ((e : Event) × (last ≡ events ++ e ∷ []))

-- where serving began: the rules, the first site, the head and the limit of the journal, the events that it had, and the disk at the call
pub record Origin (D : Type 0) : Type 0 where
  pub rules : Rules
  pub start : Site
  pub role : ℕ
  pub text : List ℕ
  pub limit : ℕ
  pub first : List Event
  pub disk : D

-- The first events are those of the file as the call found it, and the last ones those at its end with one in hand or without. Until the first sync is
-- done a crash leaves a file that could be there when the call began, and from then on one between them. What a crash leaves at the end has all events of
-- the frames that were answered.
pub record IsLeft {D : Type 0} (d : Ghosts D) (o : Origin D) (answered last : List Event) (new : D) : Type 0 where
  pub moments : LeavesOnly d.moment d.left_since o.disk new (IsOldOrBetween (d.may_leave o.disk) o.role o.text o.first last)
  pub first_sync : FirstSync d (IsBetween o.role o.text o.first last) o.disk new
  pub images : (c : List ℕ) → d.may_leave new c → IsBetween o.role o.text answered last c
  pub reads : IsWithOneInHand (events_of (d.seen new)) last

-- the journal of this head ends within the limit, or nothing was added to it
abbrev pub IsWithin : ℕ → List ℕ → ℕ → List Event → List Event → Type 0
IsWithin role text limit first last = (last ≡ first) ⊎ (length (front role text last) + 1 ≤ limit)

-- While frames are answered: the site that is shown keeps the events that the journal has, and so does the disk, whatever a crash leaves.
pub record Stands {D : Type 0} (d : Ghosts D) (o : Origin D) (shows : Site → Type 0) (j : Kept) (now : D) (k : KeptSite) : Type 0 where
  pub shown : shows k.site
  pub made : IsMadeOf o.rules o.start k
  pub same : events_seen j.events ≡ k.events
  pub same_role : j.role ≡ o.role
  pub same_text : j.text ≡ o.text
  pub same_limit : j.limit ≡ o.limit
  pub begins : Begins o.first k.events
  pub within : IsWithin o.role o.text o.limit o.first k.events
  pub tells_same : d.tells now ≡ d.tells o.disk
  pub never_falls : d.faults o.disk ≤ d.faults now
  pub moments : IsTrue (d.tells o.disk) → LeavesOnly d.moment d.left_since o.disk now (IsOldOrBetween (d.may_leave o.disk) o.role o.text o.first k.events)
  pub first_sync : IsTrue (d.tells o.disk) → FirstSync d (IsBetween o.role o.text o.first k.events) o.disk now
  pub durable : IsTrue (d.tells o.disk) → (c : List ℕ) → d.may_leave now c → HasEvents o.role o.text k.events c

-- Where a frame got no reply: the site before it, the event in hand, and the cause. The journal had stayed within its limit, and whatever a crash leaves is
-- within it too.
pub record Halts {D : Type 0} (d : Ghosts D) (o : Origin D) (new : D) (s : Standing) (fault : AppendFault) : Type 0 where
  pub made : IsMadeOf o.rules o.start s.kept
  pub kept : AreKept o.rules o.start (with_event s.kept.events s.in_hand)
  pub tells_same : d.tells new ≡ d.tells o.disk
  pub never_falls : d.faults o.disk ≤ d.faults new
  pub left : IsTrue (d.tells o.disk) → IsLeft d o s.kept.events (with_event s.kept.events s.in_hand) new
  pub within : IsWithin o.role o.text o.limit o.first s.kept.events
  pub images_within : IsTrue (d.tells o.disk) → (c : List ℕ) → d.may_leave new c → IsWithin o.role o.text o.limit o.first (events_of c)
  pub disk_fault : fault ≡ DiskFault → Rose (d.faults o.disk) (d.faults new)
  pub full : fault ≡ Full → (e : Event) × (s.in_hand ≡ Some e) × (o.limit < length (front o.role o.text (s.kept.events ++ e ∷ [])) + 1)
