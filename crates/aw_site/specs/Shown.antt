-- What a site of the program shows: a plain site, of which it can tell what was asked for and who watches.
use Rattle.std.specs.Prelude.{◌≡◌, Bool, List, map}
use Rattle.aw_store.specs.declared.facts.Facts.{Ghosts}
use Rattle.aw_subs.specs.declared.subs.Subs.{Subs}
use Rattle.aw_msg.specs.declared.message.Message.{Message}
use Rattle.aw_msg.specs.MessageView.{message_of}
use Rattle.aw_law_sites.specs.Sites as P
use Rattle.aw_space.specs.declared.space.Space.{Space}
use Rattle.aw_space.specs.Spaces as S
use Rattle.aw_space.specs.Seen.{grammar_in, space_seen}
use Rattle.aw_site_repeat.specs.Holders.{ShowsAsked, ShowsWatchers}

-- the nodes, choices and equations of a site
abbrev pub space_in : P.Site → S.Space
space_in s = record { held = s.held; choices = s.choices; equations = s.equations }

-- its role and flag, what it holds, what it asked for and who watches: all but what it sent
pub record HoldsAs {F : Type 0} (f : Ghosts F) (space : Space F f) (subs : Subs) (loads : Bool) (s : P.Site) : Type 0 where
  pub role : s.role ≡ space.role
  pub flag : s.loads ≡ loads
  pub holds : space_in s ≡ space_seen f space
  pub asked : ShowsAsked subs s.asked
  pub watchers : ShowsWatchers subs s.watches

-- all that, and all messages that it sent
pub record Shows {F : Type 0} (f : Ghosts F) (space : Space F f) (subs : Subs) (outbox : List Message) (loads : Bool) (s : P.Site) : Type 0 where
  pub holds : HoldsAs f space subs loads s
  pub sent : s.outbox ≡ map (message_of (grammar_in f space)) outbox
