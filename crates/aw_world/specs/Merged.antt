-- The nodes of several workspaces in one order.
use Rattle.std.specs.Prelude.{◌≡◌, ℕ, List, [], ◌∷◌, map, drop, Option, Some, slice_get, option_and_then}
use Rattle.aw_node_list.specs.declared.held.Held.{Held}
use Rattle.aw_node_list.specs.InOrder.{insert_all_in}
use Rattle.aw_world.specs.declared.workspace.Workspace.{Ghosts}
use Rattle.aw_world.specs.declared.merging.Spot.{Spot}

-- all of these lists in the order of nodes
abbrev pub merged : List (List Held) → List Held
merged [] = []
merged (hs ∷ hss) = insert_all_in hs (merged hss)

-- what each workspace holds
abbrev pub nodes_of : {W : Type 0} → Ghosts W → List W → List (List Held)
nodes_of f ws = map (λ w. f.its_nodes w) ws

-- what each workspace holds, from a place on
abbrev pub left_of : {W : Type 0} → Ghosts W → List W → List ℕ → List (List Held)
left_of f [] places = []
left_of f (w ∷ ws) [] = f.its_nodes w ∷ left_of f ws []
left_of f (w ∷ ws) (p ∷ places) = drop p (f.its_nodes w) ∷ left_of f ws places

-- the node at a place of a workspace
abbrev pub held_at : {W : Type 0} → Ghosts W → List W → Spot → Option Held
held_at f ws s = option_and_then (λ w. slice_get (f.its_nodes w) s.place) (slice_get ws s.site)

-- the node at this place is the first of what is left, and the others are left then
abbrev pub PassesOn : {W : Type 0} → Ghosts W → List W → List ℕ → List ℕ → Spot → Type 0
PassesOn f ws old new s = (h : Held) × (held_at f ws s ≡ Some h) × (merged (left_of f ws old) ≡ h ∷ merged (left_of f ws new))
