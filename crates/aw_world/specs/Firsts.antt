-- Of several workspaces the one whose next node is the first.
use Rattle.std.specs.Prelude.{◌≡◌, ℕ, ◌<◌, ◌≤◌, true, false, List, Option, Some, slice_get, option_and_then}
use Rattle.aw_term.specs.Names.{node_lt}
use Rattle.aw_node_list.specs.declared.held.Held.{Held}
use Rattle.aw_world.specs.declared.workspace.Workspace.{Ghosts}

-- the node of a workspace that is next in order, where these are the places of the next ones
abbrev pub next_of : {W : Type 0} → Ghosts W → List W → List ℕ → ℕ → Option Held
next_of f ws places at = option_and_then (λ w. option_and_then (λ p. slice_get (f.its_nodes w) p) (slice_get places at)) (slice_get ws at)

-- no node comes before this one, and of equal nodes the last counts
pub record IsFirst (b : ℕ) (h : Held) (j : ℕ) (k : Held) : Type 0 where
  pub behind : j ≤ b → node_lt k.node h.node ≡ false
  pub ahead : b < j → node_lt h.node k.node ≡ true

-- where any of the first n workspaces has a next node, workspace b has the first
abbrev pub IsFirstOf : {W : Type 0} → Ghosts W → List W → List ℕ → ℕ → ℕ → Type 0
IsFirstOf f ws places n b =
    (j : ℕ) (k : Held) → j < n → next_of f ws places j ≡ Some k → (h : Held) × (next_of f ws places b ≡ Some h) × IsFirst b h j k
