-- What a node keeps: the choices that it takes, and the messages that are new to it.
use Rattle.std.specs.Prelude.{◌≡◌, ℕ, Bool, true, false, List, [], ◌∷◌, ◌++◌, length, Option}
use Rattle.aw_law_sites.specs.Sites.{Site}
use Rattle.aw_msg.specs.Frames as F
use Rattle.aw_kept_append.specs.News.{is_news, event_by}
use Rattle.aw_journal.specs.Events.{Event, Took, Got}
use Rattle.aw_law_nodes.specs.Told.{told}
use Rattle.aw_node.specs.TypedNodes.{Rules, handle}

-- what a site keeps of a frame
abbrev pub kept_of : Rules → Site → F.Frame → Option Event
kept_of r s f = event_by f (told (handle r s f).response)

-- the frame that asks for an event
abbrev pub frame_for : Event → F.Frame
frame_for (Took c) = F.Choose c
frame_for (Got m) = F.Push m

-- whether an event is one at this site: its choice is taken, or its message new
abbrev pub is_kept : Rules → Site → Event → Bool
is_kept r s e = is_news (told (handle r s (frame_for e)).response)

-- the site after an event
abbrev pub after_event : Rules → Site → Event → Site
after_event r s e = (handle r s (frame_for e)).site

-- the site that these events in turn make of a site
abbrev pub site_by : Rules → Site → List Event → Site
site_by r s [] = s
site_by r s (e ∷ es) = site_by r (after_event r s e) es

-- each of them is one when it comes
abbrev pub AreKept : Rules → Site → List Event → Type 0
AreKept r s [] = Unit {0}
AreKept r s (e ∷ es) = (is_kept r s e ≡ true) × AreKept r (after_event r s e) es

-- so many of them are, and the next one is none
pub record IsFirstBad (r : Rules) (s : Site) (events : List Event) (number : ℕ) : Type 0 where
  pub before : List Event
  pub bad : Event
  pub rest : List Event
  pub parts : events ≡ before ++ bad ∷ rest
  pub counted : number ≡ length before
  pub kept : AreKept r s before
  pub refused : is_kept r (site_by r s before) bad ≡ false
