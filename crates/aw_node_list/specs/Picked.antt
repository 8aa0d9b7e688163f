-- Nodes that lie in the order in which they came, told in another order by their numbers.
use Rattle.std.specs.Prelude.{◌≡◌, ℕ, ◌<◌, List, [], ◌∷◌, length, slice_get, Option, Some, None}
use Rattle.aw_node_list.specs.declared.held.Held.{Held}

-- a node in front of others, if there is one
abbrev pub pick_on : Option Held → List Held → List Held
pick_on None hs = hs
pick_on (Some h) hs = h ∷ hs

-- the nodes with these numbers, in the order of the numbers
abbrev pub picked : List ℕ → List Held → List Held
picked [] hs = []
picked (n ∷ ns) hs = pick_on (slice_get hs n) (picked ns hs)

-- a node lies under each number
abbrev pub AreKnown : List ℕ → List Held → Type 0
AreKnown ns hs = (i n : ℕ) → slice_get ns i ≡ Some n → n < length hs

-- no number stands twice
abbrev pub AreApart : List ℕ → Type 0
AreApart ns = (i j n : ℕ) → slice_get ns i ≡ Some n → slice_get ns j ≡ Some n → i ≡ j
