-- What is seen of a site of the program.
use Rattle.std.specs.Prelude.{◌≡◌, ℕ, List}
use Rattle.aw_term.specs.Rules.{Grammar}
use Rattle.aw_term.specs.Artifacts.{Item}
use Rattle.aw_term.specs.Held.{Held}
use Rattle.aw_choice.specs.ChoiceView.{choice_of}
use Rattle.aw_choice.specs.declared.choice.Choice.{Choice}
use Rattle.aw_grammar.specs.GrammarOf.{grammar_of}
use Rattle.aw_grammar.specs.declared.grammar.Grammar as program
use Rattle.aw_store.specs.Equations.{Map}
use Rattle.aw_store.specs.declared.facts.Facts.{Ghosts}
use Rattle.aw_apply.specs.Messages.{Received}
use Rattle.aw_msg.specs.MessageView.{message_of}
use Rattle.aw_msg.specs.declared.message.Message.{Message}
use Rattle.aw_law_sites.specs.Choosing.{Chosen, choose}
use Rattle.aw_law_sites.specs.Reacting.{receive}
use Rattle.aw_law_sites.specs.Sites as P
use Rattle.aw_law_sites.specs.Worklists.{site_worklist}
use Rattle.aw_space.specs.Seen.{space_seen}
use Rattle.aw_site.specs.PartsSeen.{parts_seen}
use Rattle.aw_site.specs.declared.site.Site.{Site}

-- the grammar of its space
abbrev pub grammar_in : {F : Type 0} (f : Ghosts F) → Site F f → Grammar
grammar_in f s = grammar_of s.space.accepted.now.grammar

-- the role of its space
abbrev pub role_in : {F : Type 0} (f : Ghosts F) → Site F f → ℕ
role_in f s = s.space.role

-- the equations of its store
abbrev pub map_in : {F : Type 0} (f : Ghosts F) → Site F f → Map
map_in f s = f.map s.space.facts

-- its nodes
abbrev pub nodes_in : {F : Type 0} (f : Ghosts F) → Site F f → List Held
nodes_in f s = (space_seen f s.space).held

-- the plain site that it is
abbrev pub site_seen : {F : Type 0} (f : Ghosts F) → Site F f → P.Site
site_seen f s = parts_seen f s.space s.subs s.outbox.items s.loads

-- the plain site is shown
abbrev pub IsShown : {F : Type 0} (f : Ghosts F) → Site F f → P.Site → Type 0
IsShown f s p = site_seen f s ≡ p

-- what comes of a choice at it
abbrev pub choice_at : {F : Type 0} (f : Ghosts F) → program.Grammar → Site F f → Choice → Chosen
choice_at f d s c = choose (grammar_of d) (site_seen f s) (choice_of c)

-- and of a message
abbrev pub message_at : {F : Type 0} (f : Ghosts F) → program.Grammar → Site F f → Message → Received P.Reaction
message_at f d s m = receive (grammar_of d) (site_seen f s) (message_of (grammar_of d) m)

-- its worklist
abbrev pub worklist_at : {F : Type 0} (f : Ghosts F) → program.Grammar → Site F f → List Item
worklist_at f d s = site_worklist (grammar_of d) (site_seen f s).equations (site_seen f s).held
