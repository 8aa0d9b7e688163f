-- A world of the program whose sites fit together.
use Rattle.aw_grammar.specs.GrammarOf.{grammar_of}
use Rattle.aw_law_sites.specs.Joint.{Joint}
use Rattle.aw_law_sites.specs.Worlds as V
use Rattle.aw_law_worlds.specs.Invariant.{IsInvariant}
use Rattle.aw_world.specs.Shown.{Shows}
use Rattle.aw_world.specs.declared.workspace.Workspace.{Ghosts}
use Rattle.aw_world.specs.declared.world.World.{World}

-- it is a plain world, and what the sites of that hold, asked for and were sent fits together
abbrev pub FitsTogether : {W : Type 0} (f : Ghosts W) → World W f → Type 0
FitsTogether f w = (v : V.World) × Shows f w v × (x : Joint) × IsInvariant (grammar_of w.accepted.now.grammar) w.loads v x
