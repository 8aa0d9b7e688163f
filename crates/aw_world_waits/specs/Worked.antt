-- A small case on which the definition is tried.
use Rattle.std.specs.Prelude.{◌≡◌, false, List, [], ◌∷◌}
use Rattle.aw_term.specs.Names.{Node, root, below}
use Rattle.aw_term.specs.Choices.{Start, Develop}
use Rattle.aw_law_sites.specs.Worlds.{Move, Chooses, world_after}
use Rattle.aw_iograph.specs.Grammars.{rings}
use Rattle.aw_world_waits.specs.Blocks.{waiting}

-- the node with which case 1 begins
abbrev top : Node
top = root 0 1

-- start top 1, choose top#1 ring
abbrev pub ring_moves : List Move
ring_moves = Chooses (Start 0 1) ∷ Chooses (Develop top 0 []) ∷ []

-- nobody waits before anything was chosen, and then the two children for each other
abbrev pub RingsAreTold : Type 0
RingsAreTold =
    (waiting rings (world_after rings false []) ≡ [])
    × (waiting rings (world_after rings false ring_moves) ≡ record { node = below top 0 1; on = below top 0 2 } ∷ record { node = below top 0 2; on = below top 0 1 } ∷ [])
