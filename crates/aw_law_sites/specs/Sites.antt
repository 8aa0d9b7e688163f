-- A site: what the workspace of one role holds.
use Rattle.std.specs.Prelude.{ℕ, Bool, false, List, []}
use Rattle.aw_term.specs.Names.{Ref}
use Rattle.aw_term.specs.Choices.{Choice}
use Rattle.aw_term.specs.Held.{Held}
use Rattle.aw_store.specs.Equations.{Map}
use Rattle.aw_apply.specs.Messages.{Message}

-- its role and whether its messages carry loads; its nodes in order, the choices taken in turn, and its equations;
-- which references it asked for, which roles watch which of its references, and all messages that it ever sent
pub record Site : Type 0 where
  pub role : ℕ
  pub loads : Bool
  pub held : List Held
  pub choices : List Choice
  pub equations : Map
  pub asked : Ref → Bool
  pub watches : Ref → ℕ → Bool
  pub outbox : List Message

-- nothing is held yet
abbrev pub empty_site : Bool → ℕ → Site
empty_site loads role = record { role = role; loads = loads; held = []; choices = []; equations = []; asked = λ r. false; watches = λ r b. false; outbox = [] }

-- the site after an event, and what it sent
pub record Reaction : Type 0 where
  pub site : Site
  pub sent : List Message

-- nothing is sent
abbrev pub silently : Site → Reaction
silently s = record { site = s; sent = [] }
