-- A reference has at most one value, and unfolding to some depth gives it.
use Rattle.std.proofs.Common.{◌≡◌, ℕ, zero, suc, ◌+◌, ◌≤◌, List, [], ◌∷◌, Option, Some, None, refl, sym, ap, ◌∙◌, subst, arith}
use Rattle.std.specs.Prelude.{option_and_then, option_map}
use Rattle.aw_term.specs.Trees.{Head, Tree, Leaf, Made, Trees, Nil, More}
use Rattle.aw_term.specs.Names.{Ref}
use Rattle.aw_store.specs.Equations.{Body, Same, Is, Map, find}
use Rattle.aw_store.proofs.ChaseEnds.{same_to}
use Rattle.aw_store.specs.Unfold.{Unfolds, UnfoldAll, missing, same, is, none, one, unfold_all, unfold_on, unfold_in}

-- one value for a reference
is_to : {o : Option Body} {h h' : Head} {rs rs' : List Ref} → o ≡ Some (Is h rs) → o ≡ Some (Is h' rs') → (h ≡ h') × (rs ≡ rs')
is_to e f = (cc, cc)

module _ (k k' : Map) (more_ : (r : Ref) (b : Body) → find k r ≡ Some b → find k' r ≡ Some b) (fewer : (r : Ref) → find k r ≡ None → find k' r ≡ None) where
  mutual
    pub one_value : {r : Ref} {t : Tree Ref} → Unfolds k r t → (u : Tree Ref) → Unfolds k' r u → t ≡ u
    one_value (missing e) u (missing f) = refl
    one_value (missing e) u (same f d) = let z = fewer _ e in absurd cc
    one_value (missing e) u (is f d) = let z = fewer _ e in absurd cc
    one_value (same e d) u (missing f) = let z = more_ _ _ e in absurd cc
    one_value (same e d) u (same f d') = let p : _ ≡ _ = same_to f (more_ _ _ e) in one_value d u (subst (λ s. Unfolds k' s u) p d')
    one_value (same e d) u (is f d') = let z = more_ _ _ e in absurd cc
    one_value (is e d) u (missing f) = let z = more_ _ _ e in absurd cc
    one_value (is e d) u (same f d') = let z = more_ _ _ e in absurd cc
    one_value (is e d) u (is {ts = us} f d') =
        let (p, q) = is_to (more_ _ _ e) f in
        let v = all_values d us (subst (λ rs. UnfoldAll k' rs us) (sym q) d') in
        λ i. Made (p i) (v i)

    pub all_values : {rs : List Ref} {ts : Trees Ref} → UnfoldAll k rs ts → (us : Trees Ref) → UnfoldAll k' rs us → ts ≡ us
    all_values none Nil none = refl
    all_values none (More u us) d = elim d [ ]
    all_values (one d ds) Nil e = elim e [ ]
    all_values (one d ds) (More u us) (one e es) = let a = one_value d u e in let b = all_values ds us es in λ i. More (a i) (b i)

-- what is computed is the value
module _ (k : Map) (go : Ref → Option (Tree Ref)) (sound : (r : Ref) (t : Tree Ref) → go r ≡ Some t → Unfolds k r t) where
  more_of : (rs : List Ref) (o : Option (Tree Ref)) (r : Ref) (ts : Trees Ref) → go r ≡ o → ((us : Trees Ref) → unfold_all go rs ≡ Some us →
      UnfoldAll k rs us) → option_and_then (λ t. option_map (More t) (unfold_all go rs)) o ≡ Some ts → UnfoldAll k (r ∷ rs) ts
  more_of rs None r ts e h f = absurd cc
  more_of rs (Some t) r ts e h f = with_rest (unfold_all go rs) refl f
    where
      with_rest : (p : Option (Trees Ref)) → unfold_all go rs ≡ p → option_map (More t) p ≡ Some ts → UnfoldAll k (r ∷ rs) ts
      with_rest None g f = absurd cc
      with_rest (Some us) g f = let z : More t us ≡ ts = cc in subst (UnfoldAll k (r ∷ rs)) z (one (sound r t e) (h us g))

  all_sound : (rs : List Ref) (ts : Trees Ref) → unfold_all go rs ≡ Some ts → UnfoldAll k rs ts
  all_sound [] ts e = let z : Nil ≡ ts = cc in subst (UnfoldAll k []) z none
  all_sound (r ∷ rs) ts e = more_of rs (go r) r ts refl (all_sound rs) e

  made_sound : (r : Ref) (h : Head) (rs : List Ref) (o : Option (Trees Ref)) (t : Tree Ref) → find k r ≡ Some (Is h rs) → unfold_all go rs ≡ o → option_map (Made h) o ≡ Some t → Unfolds k r t
  made_sound r h rs None t f g e = absurd cc
  made_sound r h rs (Some ts) t f g e = let z : Made h ts ≡ t = cc in subst (Unfolds k r) z (is f (all_sound rs ts g))

  on_sound : (r : Ref) (o : Option Body) (t : Tree Ref) → find k r ≡ o → unfold_on go r o ≡ Some t → Unfolds k r t
  on_sound r None t f e = let z : Leaf r ≡ t = cc in subst (Unfolds k r) z (missing f)
  on_sound r (Some (Same s)) t f e = same f (sound s t e)
  on_sound r (Some (Is h rs)) t f e = made_sound r h rs (unfold_all go rs) t f refl e

pub computed : (k : Map) (n : ℕ) (r : Ref) (t : Tree Ref) → unfold_in n k r ≡ Some t → Unfolds k r t
computed k zero r t e = absurd cc
computed k (suc n) r t e = on_sound k (unfold_in n k) (computed k n) r (find k r) t refl e

-- a value is computed at some depth, and at each greater one
module _ (k : Map) where
  abbrev From : ℕ → Ref → Tree Ref → Type 0
  From n r t = (m : ℕ) → n ≤ m → unfold_in m k r ≡ Some t

  abbrev AllFrom : ℕ → List Ref → Trees Ref → Type 0
  AllFrom n rs ts = (m : ℕ) → n ≤ m → unfold_all (unfold_in m k) rs ≡ Some ts

  below : (n : ℕ) (P : ℕ → Type 0) → ((m : ℕ) → n ≤ m → P (suc m)) → (m : ℕ) → suc n ≤ m → P m
  below n P h zero le = absurd (omega arith)
  below n P h (suc m) le = h m (omega arith)

  mutual
    depth : {r : Ref} {t : Tree Ref} → Unfolds k r t → (n : ℕ) × From n r t
    depth (missing {r = r} f) = (1, below 0 (λ m. unfold_in m k r ≡ Some (Leaf r)) (λ m le. ap (unfold_on (unfold_in m k) r) f))
    depth (same {r = r} {t = t} f d) =
        let (n, h) = depth d in
        (suc n, below n (λ m. unfold_in m k r ≡ Some t) (λ m le. ap (unfold_on (unfold_in m k) r) f ∙ h m le))
    depth (is {r = r} {h = c} {ts = ts} f ds) =
        let (n, h) = depths ds in
        (suc n, below n (λ m. unfold_in m k r ≡ Some (Made c ts)) (λ m le. ap (unfold_on (unfold_in m k) r) f ∙ ap (option_map (Made c)) (h m le)))

    depths : {rs : List Ref} {ts : Trees Ref} → UnfoldAll k rs ts → (n : ℕ) × AllFrom n rs ts
    depths none = (0, λ m le. refl)
    depths (one {rs = rs} {t = t} d ds) =
        let (n, h) = depth d in
        let (l, hs) = depths ds in
        (n + l, λ m le. ap (option_and_then (λ t. option_map (More t) (unfold_all (unfold_in m k) rs))) (h m (omega (arith, le))) ∙ ap (option_map (More t)) (hs m (omega (arith, le))))

  pub reached : {r : Ref} {t : Tree Ref} → Unfolds k r t → (n : ℕ) × (unfold_in n k r ≡ Some t)
  reached d = let (n, h) = depth d in (n, h n (omega arith))
