-- What holds of every space: of its held nodes, its equations, and the names of its store.
use Rattle.std.specs.Prelude.{◌≡◌, ℕ, Bool, true, false, not, ◌&&◌, ◌||◌, List, [], ◌∷◌, ◌++◌, is_some}
use Rattle.aw_term.specs.Names.{Node, Ref, node_eq}
use Rattle.aw_term.specs.Rules.{Grammar, sort_of}
use Rattle.aw_store.specs.Equations.{Map}
use Rattle.aw_store.specs.NamedRefs.{all_named}
use Rattle.aw_node_list.specs.declared.held.Held.{Held}
use Rattle.aw_node_list.specs.InOrder.{IsInOrder}
use Rattle.aw_law_sites.specs.Homes.{parent, has_steps}
use Rattle.aw_law_sites.specs.ValidNames.{takes_as}
use Rattle.aw_space.specs.Spaces.{is_home}

-- the node is this role's, and has a reference for each value that its sort inherits
abbrev pub is_own : Grammar → ℕ → Held → Bool
is_own g role h = is_home g role h.node && takes_as g (sort_of g h.node) h.inherited

-- each is this role's
abbrev pub all_own : Grammar → ℕ → List Held → Bool
all_own g role [] = true
all_own g role (h ∷ hs) = is_own g role h && all_own g role hs

-- the node was developed here
abbrev pub is_done : Node → List Held → Bool
is_done n [] = false
is_done n (h ∷ hs) = (node_eq n h.node && is_some h.done) || is_done n hs

-- each equation of this role's is of a node that was developed here
abbrev pub all_done : Grammar → ℕ → List Held → Map → Bool
all_done g role hs [] = true
all_done g role hs (e ∷ es) = (not (is_home g role e.left.node) || is_done e.left.node hs) && all_done g role hs es

-- a child of a node of this role is of a node that was developed here
abbrev pub is_rooted : Grammar → ℕ → List Held → Node → Bool
is_rooted g role hs n = not (has_steps n.steps && is_home g role (parent n)) || is_done (parent n) hs

-- each of these is
abbrev pub all_rooted : Grammar → ℕ → List Held → List Held → Bool
all_rooted g role hs [] = true
all_rooted g role hs (k ∷ ks) = is_rooted g role hs k.node && all_rooted g role hs ks

-- the references that these nodes inherited
abbrev pub all_inherited : List Held → List Ref
all_inherited [] = []
all_inherited (h ∷ hs) = h.inherited ++ all_inherited hs

-- The nodes are this role's; its equations are of developed nodes; and no node was added before its parent was developed, where that is this role's.
pub record AreHome (g : Grammar) (role : ℕ) (hs : List Held) (k : Map) : Type 0 where
  pub own : all_own g role hs ≡ true
  pub done : all_done g role hs k ≡ true
  pub rooted : all_rooted g role hs hs ≡ true

-- The nodes are in order and this role's; its equations are of developed nodes; no node was added before its parent was developed, where that is
-- this role's; and the store has a name for each inherited reference.
pub record IsSound (g : Grammar) (role : ℕ) (hs : List Held) (k : Map) (names : List Ref) : Type 0 where
  pub ordered : IsInOrder hs
  pub own : all_own g role hs ≡ true
  pub done : all_done g role hs k ≡ true
  pub rooted : all_rooted g role hs hs ≡ true
  pub named : all_named names (all_inherited hs) ≡ true
