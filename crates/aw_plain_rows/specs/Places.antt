-- How many places values have: what going through them comes down by.
use Rattle.std.specs.Prelude.{ℕ, ◌+◌, ◌*◌, List, [], ◌∷◌, Option, None, Some}
use Rattle.std.specs.declared.vec.Vec.{Vec}
use Rattle.std.specs.declared.rc.Rc.{Rc}
use Rattle.std.specs.declared.alloc.Global.{Global}
use Rattle.aw_term.specs.WellFormed.{symbols}
use Rattle.aw_plain_rows.specs.declared.tree.Tree.{Tree}
use Rattle.aw_plain_rows.specs.TreeView.{value_of}

-- how many places a tree has
abbrev pub places : Tree → ℕ
places t = symbols (value_of t)

-- how many places some trees have together
abbrev pub places_of_all : List Tree → ℕ
places_of_all [] = 0
places_of_all (t ∷ ts) = places t + places_of_all ts

-- the places of the list that is open
abbrev pub places_open : Option (Rc (Vec Tree Global) Global) → ℕ
places_open None = 0
places_open (Some v) = places_of_all v.value.items

-- the pair of t and h in lexicographic order, where h is at most t
abbrev pub rank : ℕ → ℕ → ℕ
rank t h = t * t + h
