-- The parts of a site of the program, as a plain site.
use Rattle.std.specs.Prelude.{Bool, List, map}
use Rattle.aw_store.specs.declared.facts.Facts.{Ghosts}
use Rattle.aw_subs.specs.Noted.{asked_in, watches_in}
use Rattle.aw_subs.specs.declared.subs.Subs.{Subs}
use Rattle.aw_msg.specs.declared.message.Message.{Message}
use Rattle.aw_msg.specs.MessageView.{message_of}
use Rattle.aw_law_sites.specs.Sites.{Site}
use Rattle.aw_space.specs.declared.space.Space.{Space}
use Rattle.aw_space.specs.Seen.{grammar_in, space_seen}

-- its role and flag, what it holds, what it asked for and who watches, and all messages that it sent
abbrev pub parts_seen : {F : Type 0} (f : Ghosts F) → Space F f → Subs → List Message → Bool → Site
parts_seen f space subs outbox loads = record {
  role = space.role;
  loads = loads;
  held = (space_seen f space).held;
  choices = (space_seen f space).choices;
  equations = (space_seen f space).equations;
  asked = asked_in subs;
  watches = watches_in subs;
  outbox = map (message_of (grammar_in f space)) outbox;
}
