-- Flat equations are substitution.
use Rattle.std.proofs.Common.{◌≡◌, ℕ, zero, suc, List, [], Some, None, refl, sym, ap, ◌∙◌, subst, inl, inr}
use Rattle.std.specs.Prelude.{◌⊎◌}
use Rattle.aw_list.proofs.Members.{never}
use Rattle.aw_term.specs.Trees.{Never, Head, Tree, Leaf, Made, Trees, Nil, More, In, Ins, bind, binds}
use Rattle.aw_term.specs.Names.{Node, Ref, result}
use Rattle.aw_term.specs.Rules.{Term}
use Rattle.aw_term.specs.Configs.{rounds}
use Rattle.aw_store.specs.Equations.{Body, Map, find}
use Rattle.aw_store.specs.Unfold.{Unfolds, UnfoldAll, missing, same, is, none, one}
use Rattle.aw_store.proofs.MoreEquations.{Holds, Holds-left, Holds-right}
use Rattle.aw_apply.specs.Made.{lay, lays, lay_result}

-- what is laid down unfolds to the term with its leaves replaced
module _ {L : Type 0} (k : Map) (n : Node) (f : L → Ref) (u : L → Tree Ref) where
  mutual
    pub lay-unfolds : (t : Tree L) (i : ℕ) → Holds k (lay n f i t).equations → ((x : L) → In x t → Unfolds k (f x) (u x)) → Unfolds k (lay n f i t).roots (bind u t)
    lay-unfolds (Leaf x) i h g = g x refl
    lay-unfolds (Made c ts) i h g = is h.0 (lays-unfolds ts (suc i) h.1 g)

    pub lays-unfolds : (ts : Trees L) (i : ℕ) → Holds k (lays n f i ts).equations → ((x : L) → Ins x ts → Unfolds k (f x) (u x)) → UnfoldAll k (lays n f i ts).roots (binds u ts)
    lays-unfolds Nil i h g = none
    lays-unfolds (More t ts) i h g =
        let a = lay n f i t in
        one (lay-unfolds t i (Holds-left k a.equations (lays n f a.next ts).equations h) (λ x y. g x (inl y)))
        (lays-unfolds ts a.next (Holds-right k a.equations (lays n f a.next ts).equations h) (λ x y. g x (inr y)))

pub lay_result-unfolds : (k : Map) (n : Node) (f : ℕ → Ref) (u : ℕ → Tree Ref) (t : Term) (i j : ℕ) → Holds k (lay_result n f i j t).equations →
    ((x : ℕ) → In x t → Unfolds k (f x) (u x)) → Unfolds k (result n j) (bind u t)
lay_result-unfolds k n f u (Leaf v) i j h g = same h.0 (g v refl)
lay_result-unfolds k n f u (Made c ts) i j h g = is h.0 (lays-unfolds k n f u ts i h.1 g)

mutual
  pub bind-bind : {A B C : Type 0} (g : B → Tree C) (f : A → Tree B) (t : Tree A) → bind g (bind f t) ≡ bind (λ x. bind g (f x)) t
  bind-bind g f (Leaf x) = refl
  bind-bind g f (Made h ts) = ap (Made h) (binds-binds g f ts)

  pub binds-binds : {A B C : Type 0} (g : B → Tree C) (f : A → Tree B) (ts : Trees A) → binds g (binds f ts) ≡ binds (λ x. bind g (f x)) ts
  binds-binds g f Nil = refl
  binds-binds g f (More t ts) = let a = bind-bind g f t in let b = binds-binds g f ts in λ i. More (a i) (b i)

mutual
  pub In-bound : {A B : Type 0} (f : A → Tree B) (h : B) (x : A) (t : Tree A) → In x t → In h (f x) → In h (bind f t)
  In-bound f h x (Leaf y) e w = subst (λ z. In h (f z)) e w
  In-bound f h x (Made k ts) e w = Ins-bound f h x ts e w

  pub Ins-bound : {A B : Type 0} (f : A → Tree B) (h : B) (x : A) (ts : Trees A) → Ins x ts → In h (f x) → Ins h (binds f ts)
  Ins-bound f h x Nil e w = never e
  Ins-bound f h x (More t ts) (inl e) w = inl (In-bound f h x t e w)
  Ins-bound f h x (More t ts) (inr e) w = inr (Ins-bound f h x ts e w)

module _ {A : Type 0} (s : A → Tree A) where
  rounds-made : (m : ℕ) (h : Head) (ts : Trees A) → rounds m (bind s) (Made h ts) ≡ Made h (rounds m (binds s) ts)
  rounds-made zero h ts = refl
  rounds-made (suc m) h ts = rounds-made m h (binds s ts)

  rounds-nil : (m : ℕ) → rounds m (binds s) Nil ≡ Nil
  rounds-nil zero = refl
  rounds-nil (suc m) = rounds-nil m

  rounds-more : (m : ℕ) (t : Tree A) (ts : Trees A) → rounds m (binds s) (More t ts) ≡ More (rounds m (bind s) t) (rounds m (binds s) ts)
  rounds-more zero t ts = refl
  rounds-more (suc m) t ts = rounds-more m (bind s t) (binds s ts)

  pub rounds-bind : (m : ℕ) (f : ℕ → Tree A) (t : Term) → rounds m (bind s) (bind f t) ≡ bind (λ v. rounds m (bind s) (f v)) t
  rounds-bind zero f t = refl
  rounds-bind (suc m) f t = ap (rounds m (bind s)) (bind-bind s f t) ∙ rounds-bind m (λ v. bind s (f v)) t

  pub rounds-leaf : (m : ℕ) (x : A) → s x ≡ Leaf x → rounds m (bind s) (Leaf x) ≡ Leaf x
  rounds-leaf zero x e = refl
  rounds-leaf (suc m) x e = ap (rounds m (bind s)) e ∙ rounds-leaf m x e

-- what a choice does to the values of the references that stood before it
module _ (k k' : Map) (s : Ref → Tree Ref) (Good Bad : Ref → Type 0) (f : ℕ → Ref) (e : ℕ → Tree Ref) where
  abbrev pub IsClean : Tree Ref → Type 0
  IsClean t = (x : Ref) → In x t → Bad x → Never

  abbrev pub AreClean : Trees Ref → Type 0
  AreClean t = (x : Ref) → Ins x t → Bad x → Never

  abbrev pub IsGood : Tree Ref → Type 0
  IsGood t = (x : Ref) → In x t → Good x

  abbrev pub AreGood : Trees Ref → Type 0
  AreGood t = (x : Ref) → Ins x t → Good x

  -- a variable: a value from before, or one that the rounds leave
  abbrev pub VarOk : Ref → Tree Ref → Type 0
  VarOk r t = (Unfolds k r t × IsGood t) ⊎ ((m : ℕ) → Unfolds k' r (rounds m (bind s) t))

  -- a result of the developed node
  pub record Answered (x : Ref) : Type 0 where
    pub term : Term
    pub value : s x ≡ bind e term
    pub built : (u : ℕ → Tree Ref) → ((v : ℕ) → In v term → Unfolds k' (f v) (u v)) → Unfolds k' x (bind u term)
    pub variable : (v : ℕ) → In v term → VarOk (f v) (e v)

  pub record IsChange : Type 0 where
    pub extends : (r : Ref) (b : Body) → find k r ≡ Some b → find k' r ≡ Some b
    pub leaf : (x : Ref) → Good x → find k x ≡ None → ((s x ≡ Leaf x) × (find k' x ≡ None)) ⊎ (Bad x × Answered x)

  module _ (T : IsChange) where
    abbrev pub Goal : ℕ → Type 0
    Goal m = (r : Ref) (t : Tree Ref) → Unfolds k r t → IsGood t → IsClean (rounds m (bind s) t) → Unfolds k' r (rounds m (bind s) t)

    abbrev AtLeaf : ℕ → Type 0
    AtLeaf m = (x : Ref) → Good x → find k x ≡ None → IsClean (rounds m (bind s) (Leaf x)) → Unfolds k' x (rounds m (bind s) (Leaf x))

    module _ (m : ℕ) (l : AtLeaf m) where
      mutual
        tree_goal : {r : Ref} {t : Tree Ref} → Unfolds k r t → IsGood t → IsClean (rounds m (bind s) t) → Unfolds k' r (rounds m (bind s) t)
        tree_goal (missing n) g c = l _ (g _ refl) n c
        tree_goal (same n d) g c = same (T.extends _ _ n) (tree_goal d g c)
        tree_goal (is {h = h} {ts = ts} n d) g c =
            let p = rounds-made s m h ts in
            subst (Unfolds k' _) (sym p) (is (T.extends _ _ n) (trees_goal d g (subst (λ t. IsClean t) p c)))

        trees_goal : {rs : List Ref} {ts : Trees Ref} → UnfoldAll k rs ts → AreGood ts → AreClean (rounds m (binds s) ts) → UnfoldAll k' rs (rounds m (binds s) ts)
        trees_goal none g c = subst (UnfoldAll k' []) (sym (rounds-nil s m)) none
        trees_goal (one {t = t} {ts = ts} d ds) g c =
            let p = rounds-more s m t ts in
            let c' = subst (λ t. AreClean t) p c in
            subst (UnfoldAll k' _) (sym p) (one (tree_goal d (λ x i. g x (inl i)) (λ x i. c' x (inl i))) (trees_goal ds (λ x i. g x (inr i)) (λ x i. c' x (inr i))))

    leaf_zero : AtLeaf 0
    leaf_zero x g n c = elim (T.leaf x g n) [ inl a ↦ missing a.1 | inr b ↦ never (c x refl b.0) ]

    -- a term whose variables are settled
    pub variables_go : (m : ℕ) → Goal m → (t : Term) → IsClean (rounds m (bind s) (bind e t)) → ((v : ℕ) → In v t → VarOk (f v) (e v)) → (v : ℕ) → In v t → Unfolds k' (f v) (rounds m (bind s) (e v))
    variables_go m g t c h v i =
        let c' = subst (λ t. IsClean t) (rounds-bind s m e t) c in
        elim (h v i) [
          | inl d ↦ g _ _ d.0 d.1 (λ y j. c' y (In-bound (λ v. rounds m (bind s) (e v)) y v t i j))
          | inr d ↦ d m
        ]

    leaf_suc : (m : ℕ) → Goal m → AtLeaf (suc m)
    leaf_suc m g x gd n c =
        elim (T.leaf x gd n) [
          | inl a ↦ subst (Unfolds k' x) (sym (rounds-leaf s (suc m) x a.0)) (missing a.1)
          | inr b ↦
              (let A = b.1 in
              let q = ap (rounds m (bind s)) A.value in
              let p = q ∙ rounds-bind s m e A.term in
              subst (Unfolds k' x) (sym p)
              (A.built (λ v. rounds m (bind s) (e v)) (variables_go m g A.term (subst (λ t. IsClean t) q c) A.variable)))
        ]

    -- after m rounds that leave no result of the node
    pub substitute : (m : ℕ) → Goal m
    substitute zero r t d g c = tree_goal 0 leaf_zero d g c
    substitute (suc m) r t d g c = tree_goal (suc m) (leaf_suc m (substitute m)) d g c
