-- Trees: one type for written terms, for arguments and for values.
use Rattle.std.specs.Prelude.{◌≡◌, ℕ, suc, Bool, true, false, ◌&&◌, List, [], ◌∷◌, nat_eq, ◌⊎◌}
pub use Rattle.aw_list.specs.Members.{Never}

-- what stands at an inner place: a constructor, a number or a text
pub data Head : Type 0 where
  Con : (c : ℕ) → Head
  Num : (n : ℕ) → Head
  Text : (t : List ℕ) → Head

-- a tree with leaves from L; a number and a text have no parts
mutual
  pub data Tree (L : Type 0) : Type 0 where
    Leaf : (x : L) → Tree L
    Made : (h : Head) → (parts : Trees L) → Tree L

  pub data Trees (L : Type 0) : Type 0 where
    Nil : Trees L
    More : (t : Tree L) → (ts : Trees L) → Trees L

-- a list of trees as the parts of one
abbrev pub join : {L : Type 0} → List (Tree L) → Trees L
join [] = Nil
join (t ∷ ts) = More t (join ts)

-- each leaf is replaced, all at once
abbrev mutual
  pub bind : {A B : Type 0} → (A → Tree B) → Tree A → Tree B
  bind f (Leaf x) = f x
  bind f (Made h ts) = Made h (binds f ts)

  pub binds : {A B : Type 0} → (A → Tree B) → Trees A → Trees B
  binds f Nil = Nil
  binds f (More t ts) = More (bind f t) (binds f ts)

-- how many parts there are
abbrev pub count : {A : Type 0} → Trees A → ℕ
count Nil = 0
count (More t ts) = suc (count ts)

-- x is a leaf of the tree
abbrev mutual
  pub In : {A : Type 0} → A → Tree A → Type 0
  In x (Leaf y) = x ≡ y
  In x (Made h ts) = Ins x ts

  pub Ins : {A : Type 0} → A → Trees A → Type 0
  Ins x Nil = Never
  Ins x (More t ts) = In x t ⊎ Ins x ts

-- whether two texts have the same bytes
abbrev pub nats_eq : List ℕ → List ℕ → Bool
nats_eq [] [] = true
nats_eq (x ∷ xs) (y ∷ ys) = nat_eq x y && nats_eq xs ys
nats_eq _ _ = false

-- whether two heads are one
abbrev pub head_eq : Head → Head → Bool
head_eq (Con c) (Con d) = nat_eq c d
head_eq (Num n) (Num m) = nat_eq n m
head_eq (Text t) (Text u) = nats_eq t u
head_eq _ _ = false
