-- A value over the list of its parts.
use Rattle.std.proofs.Common.{◌≡◌, ℕ, List, map, Bool, true, false, ◌||◌, refl, ap, sym, ◌∙◌}
use Rattle.std.specs.declared.vec.Vec.{Vec}
use Rattle.std.specs.declared.alloc.Global.{Global}
use Rattle.std.specs.declared.rc.Rc.{Rc}
use Rattle.aw_term.specs.Trees as P
use Rattle.aw_term.specs.Trees.{Leaf, Made, Nil, More, join, bind, binds}
use Rattle.aw_term.specs.Names.{Ref}
use Rattle.aw_term.specs.Rules.{Value}
use Rattle.aw_plain_rows.specs.declared.tree.Tree as tree
use Rattle.aw_plain_rows.specs.declared.tree.Tree.TheBlock as tree_block
use Rattle.aw_plain_rows.specs.TreeView.{value_under, row_under, value_of}

row_list : (w : Bool) (m : _) (row : tree.Row_of-Tree m) → row_under w row ≡ join (map (value_under w) (tree.items-the_row-Tree m row))
row_list w _ tree.end_of-Tree = refl
row_list w _ (tree.more_of-Tree p rest) = ap (More (value_under w p)) (row_list w _ rest)

pub value_con : (w : Bool) (c : ℕ) (m : Bool) (ts : Rc (Vec tree.Tree Global) Global) → value_under w (tree.Con c m ts) ≡ Made (P.Con c) (join (map (value_under (w || m)) ts.value.items))
value_con w c m ts = ap (Made (P.Con c)) (row_list (w || m) _ (tree_block.hidden-the_row-Tree-0 ts.value) ∙ ap (λ qs. join (map (value_under (w || m)) qs)) (tree.items_hidden-the_row-Tree-0 ts.value))

-- the parts of a constructor, each as a value of its own
pub value_parts : (t : tree.Tree) (c : ℕ) (m : Bool) (ts : Rc (Vec tree.Tree Global) Global) (ps : List tree.Tree) → t ≡ tree.Con c m ts →
    ps ≡ ts.value.items → value_of t ≡ Made (P.Con c) (join (map (value_under m) ps))
value_parts t c m ts ps e i = ap value_of e ∙ value_con false c m ts ∙ ap (λ qs. Made (P.Con c) (join (map (value_under m) qs))) (sym i)

-- nothing is looked for below a mark
mutual
  pub bind_whole : (f : Ref → Value) (t : tree.Tree) → bind f (value_under true t) ≡ value_under true t
  bind_whole f (tree.Con' c m p n row) = ap (Made (P.Con c)) (binds_whole f row)
  bind_whole f (tree.Num n) = refl
  bind_whole f (tree.Text t) = refl
  bind_whole f (tree.Hole n j) = refl

  binds_whole : (f : Ref → Value) {m : _} (row : tree.Row_of-Tree m) → binds f (row_under true row) ≡ row_under true row
  binds_whole f tree.end_of-Tree = refl
  binds_whole f (tree.more_of-Tree t rest) = λ i. More (bind_whole f t i) (binds_whole f rest i)
