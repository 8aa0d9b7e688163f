-- Unfolding: the value that a reference stands for.
use Rattle.std.specs.Prelude.{◌≡◌, ℕ, zero, suc, List, [], ◌∷◌, Option, Some, None, option_and_then, option_map}
use Rattle.aw_term.specs.Trees.{Head, Tree, Leaf, Made, Trees, Nil, More}
use Rattle.aw_term.specs.Names.{Ref}
use Rattle.aw_store.specs.Equations.{Body, Same, Is, Map, find}

-- The value of a reference, where one is defined: a reference without an equation is a leaf.
mutual
  pub data Unfolds (k : Map) : Ref → Tree Ref → Type 0 where
    missing : {r : Ref} → find k r ≡ None → Unfolds k r (Leaf r)
    same : {r s : Ref} {t : Tree Ref} → find k r ≡ Some (Same s) → Unfolds k s t → Unfolds k r t
    is : {r : Ref} {h : Head} {rs : List Ref} {ts : Trees Ref} → find k r ≡ Some (Is h rs) → UnfoldAll k rs ts → Unfolds k r (Made h ts)

  pub data UnfoldAll (k : Map) : List Ref → Trees Ref → Type 0 where
    none : UnfoldAll k [] Nil
    one : {r : Ref} {rs : List Ref} {t : Tree Ref} {ts : Trees Ref} → Unfolds k r t → UnfoldAll k rs ts → UnfoldAll k (r ∷ rs) (More t ts)

-- The same with a bound on the depth, to compute with.
abbrev pub unfold_all : (Ref → Option (Tree Ref)) → List Ref → Option (Trees Ref)
unfold_all f [] = Some Nil
unfold_all f (r ∷ rs) = option_and_then (λ t. option_map (More t) (unfold_all f rs)) (f r)

-- the value of a reference, where this is its body, or it has no equation, and `go` unfolds what the body names
abbrev pub unfold_on : (Ref → Option (Tree Ref)) → Ref → Option Body → Option (Tree Ref)
unfold_on go r None = Some (Leaf r)
unfold_on go r (Some (Same s)) = go s
unfold_on go r (Some (Is h rs)) = option_map (Made h) (unfold_all go rs)

-- the value of a reference, where at most n references stand one behind the other on the way down to any part of it
abbrev pub unfold_in : ℕ → Map → Ref → Option (Tree Ref)
unfold_in zero k r = None
unfold_in (suc n) k r = unfold_on (unfold_in n k) r (find k r)
