-- Counting the places of values, for the drop that takes no stack.
use Rattle.std.proofs.Common.{◌≡◌, ℕ, suc, ◌+◌, ◌<◌, ◌≤◌, List, [], ◌∷◌, ◌++◌, map, Bool, true, false, ◌||◌, arith, refl, ◌∙◌, ap}
use Rattle.std.specs.declared.vec.Vec.{Vec}
use Rattle.std.specs.declared.rc.Rc.{Rc}
use Rattle.std.specs.declared.alloc.Global.{Global}
use Rattle.aw_term.specs.Trees as P
use Rattle.aw_term.specs.Trees.{Leaf, Made, join}
use Rattle.aw_term.specs.Rules.{Value}
use Rattle.aw_term.specs.WellFormed.{symbols, all_symbols}
use Rattle.aw_plain_rows.specs.TreeView.{value_under, row_under, value_of}
use Rattle.aw_plain_rows.specs.Places.{places, places_of_all, rank}
use Rattle.aw_plain_rows.specs.declared.tree.Tree.{Tree, Con}
use Rattle.aw_plain_rows.specs.declared.tree.Tree as tree
use Rattle.aw_plain_rows.proofs.ViewLemmas.{value_con}

pub places_append : (ts us : List Tree) → places_of_all (ts ++ us) ≡ places_of_all ts + places_of_all us
places_append [] us = omega arith
places_append (t ∷ ts) us = omega (arith, places_append ts us)

-- a mark changes no count
mutual
  pub symbols_under : (w : Bool) (t : Tree) → symbols (value_under w t) ≡ places t
  symbols_under w (tree.Con' c m p n row) = ap suc (symbols_row (w || m) m row)
  symbols_under w (tree.Num n) = refl
  symbols_under w (tree.Text t) = refl
  symbols_under true (tree.Hole n j) = refl
  symbols_under false (tree.Hole n j) = refl

  symbols_row : (w v : Bool) {m : _} (row : tree.Row_of-Tree m) → all_symbols (row_under w row) ≡ all_symbols (row_under v row)
  symbols_row w v tree.end_of-Tree = refl
  symbols_row w v (tree.more_of-Tree t rest) = omega (arith, symbols_under w t, symbols_under v t, symbols_row w v rest)

all_symbols_join : (w : Bool) (ps : List Tree) → all_symbols (join (map (value_under w) ps)) ≡ places_of_all ps
all_symbols_join w [] = refl
all_symbols_join w (p ∷ ps) = omega (arith, symbols_under w p, all_symbols_join w ps)

pub places_con : (c : ℕ) (m : Bool) (ts : Rc (Vec Tree Global) Global) → places (Con c m ts) ≡ 1 + places_of_all ts.value.items
places_con c m ts = ap symbols (value_con false c m ts) ∙ count
  where
    count : symbols (Made (P.Con c) (join (map (value_under m) ts.value.items))) ≡ 1 + places_of_all ts.value.items
    count = omega (arith, all_symbols_join m ts.value.items)

pub places_made : (t : Tree) (c : ℕ) (m : Bool) (ts : Rc (Vec Tree Global) Global) → t ≡ Con c m ts → places t ≡ 1 + places_of_all ts.value.items
places_made t c m ts e = ap places e ∙ places_con c m ts

positive : (v : Value) → 0 < symbols v
positive (Leaf r) = omega arith
positive (Made h ts) = omega arith

pub places_positive : (t : Tree) → 0 < places t
places_positive t = positive (value_of t)

-- what is counted in hand falls, and the whole does not rise
pub falls_hand : (t h u k : ℕ) → u ≤ t → k < h → rank u k < rank t h
falls_hand t h u k p q = grind arith

-- the whole falls
pub falls_all : (t h u k : ℕ) → u < t → k ≤ u → rank u k < rank t h
falls_all t h u k p q = grind arith
