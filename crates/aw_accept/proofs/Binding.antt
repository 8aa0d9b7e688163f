-- Leaves of trees, lists side by side, what a match binds.
use Rattle.std.proofs.Common.{◌≡◌, ℕ, suc, Bool, true, false, cond, List, [], ◌∷◌, ◌++◌, map, refl, subst, inl, inr}
use Rattle.std.specs.Prelude.{◌&&◌, nat_eq}
use Rattle.aw_list.proofs.Members.{never}
use Rattle.aw_term.specs.Trees.{Tree, Leaf, Made, Trees, Nil, More, In, Ins, bind, binds, count, head_eq}
use Rattle.aw_term.specs.Names.{Ref}
use Rattle.aw_term.specs.Rules.{Term, Value}
use Rattle.aw_term.specs.Matching.{Matched, Yes, Waits, Differs, Circle, and_then, under, match, match_parts}
use Rattle.aw_term.specs.WellFormed.{leaves, all_leaves}
use Rattle.aw_accept.specs.Acyclic.{Pairs}

-- a leaf of a tree with its leaves replaced
mutual
  pub In-bind : {A B : Type 0} → (f : A → Tree B) → (h : B) → (t : Tree A) → In h (bind f t) → (x : A) × In x t × In h (f x)
  In-bind f h (Leaf x) w = (x, refl, w)
  In-bind f h (Made k ts) w = Ins-binds f h ts w

  pub Ins-binds : {A B : Type 0} → (f : A → Tree B) → (h : B) → (ts : Trees A) → Ins h (binds f ts) → (x : A) × Ins x ts × In h (f x)
  Ins-binds f h Nil w = never w
  Ins-binds f h (More t ts) (inl w) = let (x, i, j) = In-bind f h t w in (x, inl i, j)
  Ins-binds f h (More t ts) (inr w) = let (x, i, j) = Ins-binds f h ts w in (x, inr i, j)

pub Pairs-append : {A B : Type 0} (P : A → B → Type 0) (xs : List A) (us : List B) (ys : List A) (vs : List B) → Pairs P xs us → Pairs P ys vs → Pairs P (xs ++ ys) (us ++ vs)
Pairs-append P [] [] ys vs a b = b
Pairs-append P (x ∷ xs) (u ∷ us) ys vs a b = (a.0, Pairs-append P xs us ys vs a.1 b)
Pairs-append P [] (u ∷ us) ys vs a b = never a
Pairs-append P (x ∷ xs) [] ys vs a b = never a

pub Pairs-map : {A B C : Type 0} (P : A → B → Type 0) (Q : C → B → Type 0) (f : A → C) → ((a : A) (b : B) → P a b → Q (f a) b) → (xs : List A) (us : List B) → Pairs P xs us → Pairs Q (map f xs) us
Pairs-map P Q f g [] [] w = tt
Pairs-map P Q f g (x ∷ xs) (u ∷ us) w = (g x u w.0, Pairs-map P Q f g xs us w.1)
Pairs-map P Q f g [] (u ∷ us) w = never w
Pairs-map P Q f g (x ∷ xs) [] w = never w

-- a guard that is Yes
pub cond-yes : {A R : Type 0} (b : Bool) (m : Matched A R) (p : List ℕ) (bs : List A) → cond b m (Differs p) ≡ Yes bs → m ≡ Yes bs
cond-yes true m p bs e = e
cond-yes false m p bs e = cc

pub under-yes : {A R : Type 0} (k : ℕ) (m : Matched A R) (bs : List A) → under k m ≡ Yes bs → m ≡ Yes bs
under-yes k (Yes b) bs e = e
under-yes k (Waits r) bs e = e
under-yes k (Differs p) bs e = cc
under-yes k (Circle r) bs e = e

pub and_then-yes : {A R : Type 0} (m n : Matched A R) (bs : List A) → and_then m n ≡ Yes bs → (xs : List A) × (ys : List A) × (m ≡ Yes xs) × (n ≡ Yes ys) × (xs ++ ys ≡ bs)
and_then-yes (Yes xs) (Yes ys) bs e = (xs, ys, refl, refl, cc)
and_then-yes (Yes xs) (Waits r) bs e = absurd cc
and_then-yes (Yes xs) (Differs p) bs e = absurd cc
and_then-yes (Yes xs) (Circle r) bs e = absurd cc
and_then-yes (Waits r) n bs e = absurd cc
and_then-yes (Differs p) n bs e = absurd cc
and_then-yes (Circle r) n bs e = absurd cc

pub yes-inj : {A R : Type 0} {xs ys : List A} → ◌≡◌ {A = Matched A R} (Yes xs) (Yes ys) → xs ≡ ys
yes-inj e = cc

pub Pairs-weaken : {A B : Type 0} (P Q : A → B → Type 0) → ((a : A) (b : B) → P a b → Q a b) → (xs : List A) (us : List B) → Pairs P xs us → Pairs Q xs us
Pairs-weaken P Q g [] [] w = tt
Pairs-weaken P Q g (x ∷ xs) (u ∷ us) w = (g x u w.0, Pairs-weaken P Q g xs us w.1)
Pairs-weaken P Q g [] (u ∷ us) w = never w
Pairs-weaken P Q g (x ∷ xs) [] w = never w

abbrev pub Piece : Value → Value → Type 0
Piece t b = (h : Ref) → In h b → In h t

abbrev pub PieceOf : Trees Ref → ℕ → Value → Type 0
PieceOf ts v b = (h : Ref) → In h b → Ins h ts

-- what a pattern binds is a part of the tree, one for each of its variables
mutual
  pub match-parts : (p : Term) (t : Value) (bs : List Value) → match p t ≡ Yes bs → Pairs (λ v b. Piece t b) (leaves p) bs
  match-parts (Leaf v) t bs e = subst (λ l. Pairs (λ v' b. Piece t b) (v ∷ []) l) (yes-inj e) ((λ h w. w), tt)
  match-parts (Made k ps) (Leaf r) bs e = absurd cc
  match-parts (Made k ps) (Made l ts) bs e =
      match_parts-parts ps ts 1 bs (cond-yes (head_eq k l && nat_eq (count ps) (count ts)) (match_parts 1 ps ts) [] bs e)

  pub match_parts-parts : (ps : Trees ℕ) (ts : Trees Ref) (n : ℕ) (bs : List Value) → match_parts n ps ts ≡ Yes bs → Pairs (PieceOf ts) (all_leaves ps) bs
  match_parts-parts Nil ts n bs e = subst (λ l. Pairs (PieceOf ts) [] l) (yes-inj e) tt
  match_parts-parts (More p ps) Nil n bs e = absurd cc
  match_parts-parts (More p ps) (More t ts) n bs e =
      let (xs, ys, a, b, j) = and_then-yes (under n (match p t)) (match_parts (suc n) ps ts) bs e in
      let u = match-parts p t xs (under-yes n (match p t) xs a) in
      let w = match_parts-parts ps ts (suc n) ys b in
      subst (λ l. Pairs (PieceOf (More t ts)) (leaves p ++ all_leaves ps) l) j
      (Pairs-append (PieceOf (More t ts)) (leaves p) xs (all_leaves ps) ys (Pairs-weaken (λ v' b. Piece t b) (PieceOf (More t ts))
      (λ a b' w' h i. inl (w' h i)) (leaves p) xs u) (Pairs-weaken (PieceOf ts) (PieceOf (More t ts)) (λ a b' w' h i. inr (w' h i)) (all_leaves ps) ys w))
