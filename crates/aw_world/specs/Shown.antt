-- A world of the program, as a whole.
use Rattle.std.specs.Prelude.{◌≡◌, ℕ, List, Option}
use Rattle.aw_term.specs.Artifacts.{Item}
use Rattle.aw_grammar.specs.GrammarOf.{grammar_of}
use Rattle.aw_law_sites.specs.Worklists.{site_worklist}
use Rattle.aw_law_sites.specs.Worlds as P
use Rattle.aw_world.specs.declared.workspace.Workspace.{Ghosts}
use Rattle.aw_world.specs.declared.world.World.{World}
use Rattle.aw_world.specs.declared.moves.Reply.{Reply}
use Rattle.aw_world.specs.Marks.{marks}
use Rattle.aw_world.specs.Seen.{Steps, world_of}

-- the plain world that it is
abbrev pub world_seen : {W : Type 0} (f : Ghosts W) → World W f → P.World
world_seen f w = world_of f w.accepted.now.grammar w.sites.items w.messages w.marks.delivered.items w.taken.items

-- that is this one
abbrev pub Shows : {W : Type 0} (f : Ghosts W) → World W f → P.World → Type 0
Shows f w v = world_seen f w ≡ v

-- it is the plain world behind this step, and the reply is the same
abbrev pub ShowsStep : {W : Type 0} (f : Ghosts W) → World W f → P.Stepped → Reply → Type 0
ShowsStep f w x r = Steps f w.accepted.now.grammar w.sites.items w.messages w.marks.delivered.items w.taken.items x r

-- whatever plain world it was, it is the one behind this event after, and the reply is the same
abbrev pub ShowsMove : {W : Type 0} (f : Ghosts W) → World W f → World W f → P.Move → Reply → Type 0
ShowsMove f old new e r = (v : P.World) → Shows f old v → ShowsStep f new (P.step (grammar_of old.accepted.now.grammar) v e) r

-- these are the items of the worklist of a role
abbrev pub IsWorklist : {W : Type 0} (f : Ghosts W) → World W f → ℕ → List Item → Type 0
IsWorklist f w role items =
    (v : P.World) → Shows f w v → items ≡ site_worklist (grammar_of w.accepted.now.grammar) (P.site_at v role).equations (P.site_at v role).held

-- the number of the first message that was never delivered
abbrev pub first_open : {W : Type 0} {f : Ghosts W} → World W f → Option ℕ
first_open w = P.first_false 0 (marks w.messages w.marks.delivered.items)
