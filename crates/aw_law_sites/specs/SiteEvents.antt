-- A site by its own events.
use Rattle.std.specs.Prelude.{ℕ, List, [], ◌∷◌, ◌++◌, Option, None, Some, slice_get, nat_eq, if◌then◌else◌}
use Rattle.aw_term.specs.Rules.{Grammar}
use Rattle.aw_term.specs.Choices.{Choice}
use Rattle.aw_apply.specs.Messages.{Message, Received, New}
use Rattle.aw_law_sites.specs.Homes.{home}
use Rattle.aw_law_sites.specs.Sites.{Site, Reaction}
use Rattle.aw_law_sites.specs.Choosing.{Chosen, No, Did, choose}
use Rattle.aw_law_sites.specs.Reacting.{receive}
use Rattle.aw_law_sites.specs.Worlds.{World, node_of, Move, Chooses, Delivers, step}

-- a choice that was made here, or a message that came here
pub data SiteEvent : Type 0 where
  Chose : (choice : Choice) → SiteEvent
  Got : (message : Message) → SiteEvent

-- a refusal changes nothing
abbrev pub after_choice : Site → Chosen → Site
after_choice s (No a) = s
after_choice s (Did x) = x.site

-- only what is new changes a site
abbrev pub after_message : Site → Received Reaction → Site
after_message s (New x) = x.site
after_message s _ = s

-- the site after one event
abbrev pub site_step : Grammar → Site → SiteEvent → Site
site_step g s (Chose c) = after_choice s (choose g s c)
site_step g s (Got m) = after_message s (receive g s m)

-- the site after these events in turn
abbrev pub site_run : Grammar → Site → List SiteEvent → Site
site_run g s [] = s
site_run g s (e ∷ es) = site_run g (site_step g s e) es

-- the message came here, if it is for this role
abbrev pub got : Option Message → ℕ → List SiteEvent
got None role = []
got (Some m) role = if nat_eq m.to role then Got m ∷ [] else []

-- what one event of a world is at the site of this role: itself, or nothing
abbrev pub own_events : Grammar → World → ℕ → Move → List SiteEvent
own_events g w role (Chooses c) = if nat_eq (home g (node_of c)) role then Chose c ∷ [] else []
own_events g w role (Delivers k) = got (slice_get w.messages k) role

-- the events of a world that are those of this role
abbrev pub all_events : Grammar → World → ℕ → List Move → List SiteEvent
all_events g w role [] = []
all_events g w role (e ∷ es) = own_events g w role e ++ all_events g (step g w e).world role es
