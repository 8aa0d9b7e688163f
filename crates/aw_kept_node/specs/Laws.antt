-- What the events of a node make of its site, what the first of them make, and for how long they are safe.
use Rattle.std.specs.Prelude.{◌≡◌, ℕ, zero, suc, ◌-◌, ◌≤◌, List, [], ◌∷◌, ◌++◌, IsTrue, length, map, take}
use Rattle.aw_law_sites.specs.SiteEvents as events
use Rattle.aw_law_sites.specs.Sites.{Site}
use Rattle.aw_msg.specs.Frames.{Frame}
use Rattle.aw_msg.specs.MessageView.{message_of}
use Rattle.aw_session.specs.Frames.{AreAnswered}
use Rattle.aw_disk.specs.declared.edge.Disk.{Ghosts}
use Rattle.aw_journal.specs.Events.{Event, Took, Got}
use Rattle.aw_node.specs.TypedNodes.{Rules}
use Rattle.aw_journal.specs.Format.{events_of}
use Rattle.aw_journal.specs.Opens.{IsForeign}
use Rattle.aw_kept_node.specs.Exits.{Origin, Begins, IsLeft}
use Rattle.aw_kept_node.specs.KeptEvents.{site_by, AreKept}
use Rattle.aw_kept_node.specs.KeptSites.{KeptSite, Standing, after_frame}
use Rattle.aw_kept_node.specs.Replying.{IsSafeSince, RepliesSafely}

-- an event of a node, as one of its site
abbrev pub site_event : Rules → Event → events.SiteEvent
site_event r (Took c) = events.Chose c
site_event r (Got m) = events.Got (message_of r.grammar m)

-- The site that events make, each of them one when it comes, is that of a world whose sites may go back to their first events.
abbrev pub SitesAreRuns : Rules → Type 0
SitesAreRuns r = (s : Site) (es : List Event) → AreKept r s es → site_by r s es ≡ events.site_run r.grammar s (map (site_event r) es)

-- where each event is one when it comes, so are the first ones
abbrev pub FirstAreKept : Rules → Type 0
FirstAreKept r = (s : Site) (es : List Event) (n : ℕ) → AreKept r s es → AreKept r s (take n es)

-- the site behind some frames, with the events that it kept
abbrev pub after_frames : Rules → KeptSite → List Frame → KeptSite
after_frames r k [] = k
after_frames r k (f ∷ fs) = after_frames r (after_frame r k f) fs

-- Of frames that were answered take any first ones: from some moment on, up to the end, no crash loses an event of them.
abbrev pub FirstAreSafe : {D : Type 0} → Ghosts D → Type 0
FirstAreSafe {D} d = (o : Origin D) (end : D) (last : List Event) (s t : Standing) (front back : List Frame) (replies : List (List ℕ)) → IsTrue (d.tells o.disk) →
    IsSafeSince d o end last s.moment s.kept.events → AreAnswered (RepliesSafely d o end last) s (front ++ back) replies t →
    (moment : ℕ) × (s.moment ≤ moment) × IsSafeSince d o end last moment (after_frames o.rules s.kept front).events

-- how many of these replies, written one behind the other, have a byte among the first so many
abbrev pub begun : List (List ℕ) → ℕ → ℕ
begun [] n = 0
begun (x ∷ xs) zero = 0
begun (x ∷ xs) (suc n) = suc (begun xs (suc n - length x))

-- Of the replies of a session take any first bytes: from some moment on, up to the end, no crash loses an event of a frame of whose reply a byte is among them.
abbrev pub BytesAreSafe : {D : Type 0} → Ghosts D → Type 0
BytesAreSafe {D} d = (o : Origin D) (end : D) (last : List Event) (s t : Standing) (frames : List Frame) (replies : List (List ℕ)) (n : ℕ) → IsTrue (d.tells o.disk) →
    IsSafeSince d o end last s.moment s.kept.events → AreAnswered (RepliesSafely d o end last) s frames replies t →
    (moment : ℕ) × (s.moment ≤ moment) × IsSafeSince d o end last moment (after_frames o.rules s.kept (take (begun replies n) frames)).events

-- What was safe up to the end of one run is so up to the end of the next one, which goes on from the same disk: whatever a crash leaves since then has these
-- events, behind the journal's own head.
abbrev pub StaySafe : {D : Type 0} → Ghosts D → Type 0
StaySafe {D} d = (o p : Origin D) (last answered later : List Event) (moment : ℕ) (events : List Event) (new : D) → IsTrue (d.tells p.disk) →
    p.role ≡ o.role → p.text ≡ o.text → p.first ≡ events_of (d.seen p.disk) →
    IsSafeSince d o p.disk last moment events → IsLeft d p answered later new →
    (c : List ℕ) → d.left_since new moment c → (IsForeign o.role o.text c → ⊥) × Begins events (events_of c)
