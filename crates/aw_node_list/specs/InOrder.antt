-- Held nodes in the order of their names, each once.
use Rattle.std.specs.Prelude.{◌≡◌, ℕ, zero, suc, ◌<◌, true, List, [], ◌∷◌, length, slice_index_or, Option, Some, None, if◌then◌else◌, option_map}
use Rattle.aw_term.specs.Names.{Node, node_eq, node_lt}
use Rattle.aw_term.specs.ByNode.{insert_by, insert_all_by}
use Rattle.aw_choice.specs.declared.choice.Choice.{Choice}
use Rattle.aw_node_list.specs.declared.held.Held.{Held}

-- each node comes before all later ones
abbrev pub IsInOrder : List Held → Type 0
IsInOrder hs = (i j : ℕ) (d : Held) → i < j → j < length hs → node_lt (slice_index_or hs i d).node (slice_index_or hs j d).node ≡ true

-- the place of a node, where it is held
abbrev pub place_in : Node → List Held → Option ℕ
place_in n [] = None
place_in n (h ∷ hs) = if node_eq n h.node then Some 0 else option_map suc (place_in n hs)

-- a node before the first that is after it
abbrev pub insert_in : Held → List Held → List Held
insert_in h ks = insert_by (λ (k : Held). k.node) h ks

-- each of some nodes in turn
abbrev pub insert_all_in : List Held → List Held → List Held
insert_all_in hs ks = insert_all_by (λ (k : Held). k.node) hs ks

-- the node is not held
abbrev pub Lacks : Node → List Held → Type 0
Lacks n hs = place_in n hs ≡ None

-- none of these is held, or stands twice among them
abbrev pub LackEach : List Held → List Held → Type 0
LackEach [] ks = Unit {0}
LackEach (h ∷ hs) ks = Lacks h.node ks × LackEach hs (insert_in h ks)

-- the node at a place is developed by this choice; its name and its references stay, as does each other node
abbrev pub done_at : Choice → ℕ → List Held → List Held
done_at c i [] = []
done_at c zero (h ∷ hs) = record h { done = Some c } ∷ hs
done_at c (suc i) (h ∷ hs) = h ∷ done_at c i hs
