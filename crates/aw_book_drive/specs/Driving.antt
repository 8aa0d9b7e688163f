-- What trying an event does to a world.
use Rattle.std.specs.Prelude.{◌≡◌, ℕ, Bool, true, false, ◌&&◌, nat_eq, List, [], ◌∷◌, ◌++◌, map}
use Rattle.aw_apply.specs.Messages.{Message}
use Rattle.aw_base.specs.ChoiceFits.{choice_ok}
use Rattle.aw_grammar.specs.GrammarOf.{grammar_of}
use Rattle.aw_law_sites.specs.Homes.{home}
use Rattle.aw_law_sites.specs.SiteEvents.{SiteEvent}
use Rattle.aw_law_sites.specs.Worlds as V
use Rattle.aw_law_sites.specs.Worlds.{node_of}
use Rattle.aw_law_journals.specs.Journals.{Fits}
use Rattle.aw_msg.specs.MessageView.{message_of}
use Rattle.aw_term.specs.Choices.{Choice}
use Rattle.aw_term.specs.Rules.{Grammar}
use Rattle.aw_term.specs.Trees.{Never}
use Rattle.aw_typed.specs.Types.{Types}
use Rattle.aw_typed.specs.TypeFaults.{arg_ok}
use Rattle.aw_typed.specs.Typing.{IsMadeFor, types_of}
use Rattle.aw_world.specs.MoveView.{move_of}
use Rattle.aw_world.specs.Shown.{Shows}
use Rattle.aw_world.specs.declared.workspace.Workspace.{Ghosts}
use Rattle.aw_world.specs.declared.world.World.{World}
use Rattle.aw_book_drive.specs.declared.driver.Driver.{Driver}
use Rattle.aw_book_drive.specs.Indexes.{Covers}

-- the grammar and the types by which events are tried
abbrev pub grammar_in : {W : Type 0} {f : Ghosts W} → Driver W f → Grammar
grammar_in x = grammar_of x.world.accepted.now.grammar

abbrev pub types_in : {W : Type 0} {f : Ghosts W} → Driver W f → Types
types_in x = types_of x.typed.now.types

-- these are the types and the grammar by which it tries events
pub record Uses {W : Type 0} {f : Ghosts W} (x : Driver W f) (t : Types) (g : Grammar) : Type 0 where
  pub types : types_in x ≡ t
  pub grammar : grammar_in x ≡ g

-- the types were made for the grammar
abbrev pub IsUsable : {W : Type 0} {f : Ghosts W} → Driver W f → Type 0
IsUsable x = IsMadeFor (grammar_in x) x.typed.now

-- a choice fits the grammar and the types, and is made at this role
abbrev pub may_be_asked : Types → Grammar → ℕ → Choice → Bool
may_be_asked t g role c = choice_ok g c && (arg_ok t g c && nat_eq (home g (node_of c)) role)

-- a world of the program can be seen as this one, but for what counts as delivered: a message that came in vain does
abbrev pub Nearly : {W : Type 0} (f : Ghosts W) → World W f → V.World → Type 0
Nearly f w v = (delivered : List Bool) × Shows f w (record v { delivered = delivered })

-- it is this world, the moves so far led there, and the index covers its messages
pub record Drives {W : Type 0} (f : Ghosts W) (x : Driver W f) (v : V.World) (moves : List V.Move) : Type 0 where
  pub world : Nearly f x.world v
  pub index : Covers x.index v.messages
  pub moves_are : map move_of x.moves.items ≡ moves

-- the messages that were sent, as plain ones
abbrev pub sent_in : {W : Type 0} {f : Ghosts W} → Driver W f → List Message
sent_in x = map (message_of (grammar_in x)) x.world.messages

-- the messages that came behind those that the index covers are noted
abbrev pub NotesSent : {W : Type 0} {f : Ghosts W} → Driver W f → Driver W f → Type 0
NotesSent old new = (front more : List Message) → sent_in old ≡ front ++ more → Covers old.index front → Covers new.index (sent_in old)

-- the event was allowed, and came; or it is not allowed, and nothing came
abbrev pub Tries : {W : Type 0} (f : Ghosts W) → Types → Grammar → Driver W f → V.World → List V.Move → ℕ → SiteEvent → Bool → Type 0
Tries f t g new v moves role event true = (e : V.Move) × Fits t g v role event e × Drives f new (V.step g v e).world (moves ++ e ∷ [])
Tries f t g new v moves role event false = ((e : V.Move) → Fits t g v role event e → Never) × Drives f new v moves
