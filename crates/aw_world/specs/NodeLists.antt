-- Two lists of nodes in one order.
use Rattle.std.specs.Prelude.{◌≡◌, List, [], ◌∷◌, Bool, true, false}
use Rattle.aw_term.specs.Names.{Node, node_lt}
use Rattle.aw_term.specs.ByNode.{insert_all_by}
use Rattle.aw_term.specs.WellFormed.{Later}

-- none of these nodes comes before one in front of it
abbrev pub AreOrdered : List Node → Type 0
AreOrdered ns = Later (λ m n. node_lt n m ≡ false) ns

-- nodes put among others in turn, each before the first that is after it
abbrev pub put_among : List Node → List Node → List Node
put_among ms ns = insert_all_by (λ (n : Node). n) ms ns

-- the next node of two lists is the first list's: it has one, and the other has none, or one that comes after it
abbrev pub is_first_next : List Node → List Node → Bool
is_first_next [] ns = false
is_first_next (m ∷ ms) [] = true
is_first_next (m ∷ ms) (n ∷ ns) = node_lt m n
