-- A site with the events that it kept.
use Rattle.std.specs.Prelude.{◌≡◌, ℕ, List, [], ◌∷◌, ◌++◌, Option, None, Some}
use Rattle.aw_law_sites.specs.Sites.{Site}
use Rattle.aw_msg.specs.Frames.{Frame}
use Rattle.aw_journal.specs.Events.{Event}
use Rattle.aw_node.specs.TypedNodes.{Rules, handle, reply}
use Rattle.aw_kept_node.specs.KeptEvents.{kept_of, site_by, AreKept}

-- a site, and the events that it kept so far
pub record KeptSite : Type 0 where
  pub site : Site
  pub events : List Event

-- where a node stands: its site with the events that it kept, the event of a frame that got no reply, and the moment of the disk since which it does
pub record Standing : Type 0 where
  pub kept : KeptSite
  pub in_hand : Option Event
  pub moment : ℕ

-- a site since this moment, with no event in hand
abbrev pub standing : KeptSite → ℕ → Standing
standing k moment = record { kept = k; in_hand = None; moment = moment }

-- these events and one more, if there is one
abbrev pub with_event : List Event → Option Event → List Event
with_event events None = events
with_event events (Some e) = events ++ e ∷ []

-- after a frame the site is the one behind it, with the event that the frame was
abbrev pub after_frame : Rules → KeptSite → Frame → KeptSite
after_frame r k f = record { site = (handle r k.site f).site; events = with_event k.events (kept_of r k.site f) }

-- what a reply does: these are its bytes, and the site keeps what the frame was
abbrev pub keeps : Rules → KeptSite → Frame → List ℕ → KeptSite → Type 0
keeps r k f x l = (x ≡ reply r k.site f) × (l ≡ after_frame r k f)

-- the site that these events make of the first one
abbrev pub reopened : Rules → Site → List Event → KeptSite
reopened r s events = record { site = site_by r s events; events = events }

-- its events are all events when they come, and make it of the first site
pub record IsMadeOf (r : Rules) (s : Site) (k : KeptSite) : Type 0 where
  pub kept : AreKept r s k.events
  pub made : k.site ≡ site_by r s k.events
