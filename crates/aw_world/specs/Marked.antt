-- What an event does to the workspaces, messages, marks and choices of the program.
use Rattle.std.specs.Prelude.{ℕ, Bool, List}
use Rattle.aw_accept.specs.declared.accepted.Accepted.{Accepted}
use Rattle.aw_choice.specs.declared.choice.Choice.{Choice}
use Rattle.aw_grammar.specs.declared.grammar.Grammar.{Grammar}
use Rattle.aw_msg.specs.declared.message.Message.{Message}
use Rattle.aw_world.specs.declared.marks.Marks.{Marks}
use Rattle.aw_world.specs.declared.moves.Move.{Move}
use Rattle.aw_world.specs.declared.moves.Reply.{Reply}
use Rattle.aw_world.specs.declared.workspace.Workspace.{Ghosts}
use Rattle.aw_world.specs.Seen.{Delivers, Moves, SeenStill}

-- the plain world behind this event is seen after, and the reply is the same
abbrev pub MovesTo : {W : Type 0} → Ghosts W → Accepted → List W → List Message → Marks → List Choice → List W → List Message → Marks → List Choice → Move → Reply → Type 0
MovesTo f a ws ms old cs xs ns new ds e r = Moves f a.grammar ws ms old.delivered.items cs xs ns new.delivered.items ds e r

-- the plain world is as it was
abbrev pub StaysSeen : {W : Type 0} → Ghosts W → Accepted → List W → List Message → Marks → List Choice → List W → List Message → Marks → List Choice → Type 0
StaysSeen f a ws ms old cs xs ns new ds = SeenStill f a.grammar ws ms old.delivered.items cs xs ns new.delivered.items ds

-- the plain world behind this delivery is seen after, and the reply is the same; the choices taken stay
abbrev pub DeliversTo : {W : Type 0} → Ghosts W → Grammar → List W → List Message → Marks → List W → List Message → Marks → ℕ → Reply → Type 0
DeliversTo f g ws ms old xs ns new k r = Delivers f g ws ms old.delivered.items xs ns new.delivered.items k r

-- whatever choices were taken, the plain world is as it was
abbrev pub StaysSeenForAllTaken : {W : Type 0} → Ghosts W → Grammar → List W → List Message → Marks → List W → List Message → Marks → Type 0
StaysSeenForAllTaken f g ws ms old xs ns new = (taken : List Choice) → SeenStill f g ws ms old.delivered.items taken xs ns new.delivered.items taken

-- whatever was delivered, the plain world is as it was
abbrev pub StaysSeenForAllDelivered : {W : Type 0} → Ghosts W → Grammar → List W → List Message → List Choice → List W → List Message → List Choice → Type 0
StaysSeenForAllDelivered f g ws ms cs xs ns ds = (flags : List Bool) → SeenStill f g ws ms flags cs xs ns flags ds
