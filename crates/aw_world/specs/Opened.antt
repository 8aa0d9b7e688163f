-- The open nodes of a world, and where its nodes stand.
use Rattle.std.specs.Prelude.{◌≡◌, ℕ, List, [], ◌∷◌, map, Some, slice_get}
use Rattle.aw_term.specs.Names.{Node}
use Rattle.aw_term.specs.Configs.{State, Pending, Done}
use Rattle.aw_term.specs.Held.{Held}
use Rattle.aw_term.specs.Rules.{Grammar}
use Rattle.aw_node_list.specs.declared.held.Held as made
use Rattle.aw_law_sites.specs.Homes.{home}
use Rattle.aw_world.specs.declared.workspace.Workspace.{Ghosts}
use Rattle.aw_world.specs.declared.merging.Spot.{Spot}
use Rattle.aw_world.specs.Merged.{merged, nodes_of, held_at}

-- the node stands in front where it is pending
abbrev pub open_on : State → Node → List Node → List Node
open_on Pending n later = n ∷ later
open_on (Done r args) n later = later

-- the nodes on which no choice was taken
abbrev pub open_nodes : List Held → List Node
open_nodes [] = []
open_nodes (h ∷ hs) = open_on h.state h.node (open_nodes hs)

-- these are the places of all nodes of these workspaces, in the order of nodes
abbrev pub AreAllInOrder : {W : Type 0} → Ghosts W → List W → List Spot → Type 0
AreAllInOrder f ws spots = map (held_at f ws) spots ≡ map Some (merged (nodes_of f ws))

-- each node stands at the workspace of its home
abbrev pub AreAtHome : {W : Type 0} → Ghosts W → Grammar → List W → Type 0
AreAtHome {W} f g ws = (i j : ℕ) (w : W) (h : made.Held) → slice_get ws i ≡ Some w → slice_get (f.its_nodes w) j ≡ Some h → home g h.node ≡ i
