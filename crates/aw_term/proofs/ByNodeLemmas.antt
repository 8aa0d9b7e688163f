-- Lists of records in the order of their nodes: what keeps the order, and where a node's record is and a new one goes.
use Rattle.std.proofs.Common.{◌≡◌, ℕ, zero, suc, ◌+◌, ◌<◌, ◌≤◌, List, [], ◌∷◌, ◌++◌, length, map, take, drop, get_or, Some, None, slice_get, Bool, true, false, cond, ap, subst, sym, ◌∙◌, refl, arith}
use Rattle.std.specs.Prelude.{not}
use Rattle.std.specs.Cmp.{IsStrictWeakOrder}
use Rattle.std.specs.List.{AllWithin}
use Rattle.std.specs.List.Sorted.{IsPartitionedBy}
use Rattle.std.proofs.Math.ListN.{get_or-map}
use Rattle.std.proofs.lemmas.Bool.{not-true, not-false}
use Rattle.std.proofs.lemmas.List.{length-map}
use Rattle.std.proofs.lemmas.List.Sorted.{sorted_far}
use Rattle.std.proofs.lemmas.Option.{same_Some}
use Rattle.aw_term.specs.Names.{Node, node_eq, node_lt}
use Rattle.aw_term.specs.ByNode.{IsOrderedBy, insert_by, insert_all_by, find_by}
use Rattle.aw_term.specs.Configs.{rounds}
use Rattle.aw_term.specs.WellFormed.{Each}
use Rattle.aw_name.specs.SameNodes.{node_is, node_Decides}
use Rattle.aw_term.proofs.NodeOrder.{node_order, node_tied}
use Rattle.aw_term.proofs.StrictOrders.{before_cases}

module _ {A : Type 0} (at : A → Node) where
  by_node : IsStrictWeakOrder (λ (x y : A). node_lt (at x) (at y))
  by_node = record {
    one_way = λ x y. node_order.one_way (at x) (at y);
    chain = λ x y z. node_order.chain (at x) (at y) (at z);
  }

  -- no later record comes before an earlier one
  pub far : (xs : List A) → IsOrderedBy at xs → (i j : ℕ) (d : A) → i ≤ j → j < length xs → node_lt (at (get_or xs j d)) (at (get_or xs i d)) ≡ false
  far xs up = sorted_far (λ (x y : A). node_lt (at x) (at y)) by_node xs up

  -- the same, record by record
  abbrev NoneBefore : Node → List A → Type 0
  NoneBefore n xs = Each (λ x. node_lt (at x) n ≡ false) xs

  abbrev Up : List A → Type 0
  Up [] = Unit {0}
  Up (x ∷ xs) = NoneBefore (at x) xs × Up xs

  each_from : (P : A → Type 0) (xs : List A) → ((k : ℕ) (d : A) → k < length xs → P (get_or xs k d)) → Each P xs
  each_from P [] f = tt
  each_from P (x ∷ xs) f = (f 0 x (omega arith), each_from P xs (λ k d l. f (suc k) d (omega (arith, l))))

  up_from : (xs : List A) → ((i j : ℕ) (d : A) → i ≤ j → j < length xs → node_lt (at (get_or xs j d)) (at (get_or xs i d)) ≡ false) → Up xs
  up_from [] f = tt
  up_from (x ∷ xs) f =
      (each_from _ xs (λ k d l. f 0 (suc k) d (omega arith) (omega (arith, l))), up_from xs (λ i j d le l. f (suc i) (suc j) d (omega (arith, le)) (omega (arith, l))))

  up_of : (xs : List A) → IsOrderedBy at xs → Up xs
  up_of xs up = up_from xs (far xs up)

  ordered_of : (xs : List A) → Up xs → IsOrderedBy at xs
  ordered_of [] up k d low l = absurd (omega (arith, l))
  ordered_of (x ∷ []) up k d low l = absurd (omega (arith, l))
  ordered_of (x ∷ y ∷ ys) up zero d low l = up.0.0
  ordered_of (x ∷ y ∷ ys) up (suc k) d low l =
      let e : suc k + 1 ≡ suc (k + 1) = omega arith in
      subst (λ m. node_lt (at (get_or (x ∷ y ∷ ys) m d)) (at (get_or (y ∷ ys) k d)) ≡ false) (sym e) (ordered_of (y ∷ ys) up.1 k d (omega arith) (omega (arith, l)))

  -- what is before a record is before all that are after it
  before_all : (n m : Node) (xs : List A) → node_lt n m ≡ true → NoneBefore m xs → NoneBefore n xs
  before_all n m [] l up = tt
  before_all n m (x ∷ xs) l up = (node_order.chain (at x) m n up.0 (node_order.one_way n m l), before_all n m xs l up.1)

  none_cases : (n : Node) (b : Bool) (r x : A) (xs zs : List A) → node_lt (at r) n ≡ false → NoneBefore n (x ∷ xs) → NoneBefore n zs → NoneBefore n (cond b (r ∷ x ∷ xs) (x ∷ zs))
  none_cases n true r x xs zs h up later = (h, up)
  none_cases n false r x xs zs h up later = (up.0, later)

  none_inserted : (n : Node) (r : A) (xs : List A) → node_lt (at r) n ≡ false → NoneBefore n xs → NoneBefore n (insert_by at r xs)
  none_inserted n r [] h up = (h, tt)
  none_inserted n r (x ∷ xs) h up = none_cases n (node_lt (at r) (at x)) r x xs (insert_by at r xs) h up (none_inserted n r xs h up.1)

  up_cases : (b : Bool) (r x : A) (xs : List A) → node_lt (at r) (at x) ≡ b → Up (x ∷ xs) → Up (insert_by at r xs) → Up (cond b (r ∷ x ∷ xs) (x ∷ insert_by at r xs))
  up_cases true r x xs e up later = ((node_order.one_way (at r) (at x) e, before_all (at r) (at x) xs e up.0), up)
  up_cases false r x xs e up later = (none_inserted (at x) r xs e up.0, later)

  up_inserted : (r : A) (xs : List A) → Up xs → Up (insert_by at r xs)
  up_inserted r [] up = (tt, tt)
  up_inserted r (x ∷ xs) up = up_cases (node_lt (at r) (at x)) r x xs refl up (up_inserted r xs up.1)

  -- a record that is inserted keeps the order
  pub ordered_inserted : (r : A) (xs : List A) → IsOrderedBy at xs → IsOrderedBy at (insert_by at r xs)
  ordered_inserted r xs up = ordered_of (insert_by at r xs) (up_inserted r xs (up_of xs up))

  pub ordered_all_inserted : (rs xs : List A) → IsOrderedBy at xs → IsOrderedBy at (insert_all_by at rs xs)
  ordered_all_inserted [] xs up = up
  ordered_all_inserted (r ∷ rs) xs up = ordered_all_inserted rs (insert_by at r xs) (ordered_inserted r xs up)

  none_mapped : (f : A → A) → ((x : A) → at (f x) ≡ at x) → (n : Node) (xs : List A) → NoneBefore n xs → NoneBefore n (map f xs)
  none_mapped f same n [] up = tt
  none_mapped f same n (x ∷ xs) up = (ap (λ m. node_lt m n) (same x) ∙ up.0, none_mapped f same n xs up.1)

  up_mapped : (f : A → A) → ((x : A) → at (f x) ≡ at x) → (xs : List A) → Up xs → Up (map f xs)
  up_mapped f same [] up = tt
  up_mapped f same (x ∷ xs) up = (subst (λ n. NoneBefore n (map f xs)) (sym (same x)) (none_mapped f same (at x) xs up.0), up_mapped f same xs up.1)

  -- records that keep their nodes keep the order
  pub ordered_mapped : (f : A → A) → ((x : A) → at (f x) ≡ at x) → (xs : List A) → IsOrderedBy at xs → IsOrderedBy at (map f xs)
  ordered_mapped f same xs up = ordered_of (map f xs) (up_mapped f same xs (up_of xs up))

  pub ordered_rounds : (f : A → A) → ((x : A) → at (f x) ≡ at x) → (m : ℕ) (xs : List A) → IsOrderedBy at xs → IsOrderedBy at (rounds m (map f) xs)
  ordered_rounds f same zero xs up = up
  ordered_rounds f same (suc m) xs up = ordered_rounds f same m (map f xs) (ordered_mapped f same xs up)

differs : (n m : Node) (b : Bool) → node_eq n m ≡ b → (n ≡ m → node_lt m m ≡ true) → b ≡ false
differs n m true e h = let same = node_is n m e in let l = h same in let z = node_order.one_way m m l in absurd cc
differs n m false e h = refl

pub other_before : (n m : Node) → node_lt m n ≡ true → node_eq n m ≡ false
other_before n m l = differs n m _ refl (λ e. subst (λ k. node_lt m k ≡ true) e l)

pub other_after : (n m : Node) → node_lt n m ≡ true → node_eq n m ≡ false
other_after n m l = differs n m _ refl (λ e. subst (λ k. node_lt k m ≡ true) e l)

pub after_cases : (n a b : Node) (x : Bool) → node_lt n b ≡ x → node_lt n a ≡ true → node_lt b a ≡ false → x ≡ true
after_cases n a b true e l up = refl
after_cases n a b false e l up = let z = node_order.chain n b a e up in absurd cc

pub strict_cases : (n a : Node) (x : Bool) → node_lt n a ≡ x → node_lt a n ≡ false → node_eq n a ≡ false → x ≡ true
strict_cases n a true e low differ = refl
strict_cases n a false e low differ = let same = node_tied n a e low in let z = (node_Decides n a).1 same in absurd cc

-- The same for the records of a program, which f shows as plain ones.
module _ {A B : Type 0} (at : A → Node) (f : B → A) where
  abbrev node : B → Node
  node x = at (f x)

  abbrev Far : List B → Type 0
  Far xs = (i j : ℕ) (d : B) → i ≤ j → j < length xs → node_lt (node (get_or xs j d)) (node (get_or xs i d)) ≡ false

  pub shown_far : (xs : List B) → IsOrderedBy at (map f xs) → Far xs
  shown_far xs up i j d le l =
      let here = λ (k : ℕ). ap at (get_or-map f xs k d) in
      subst (λ m. node_lt (node (get_or xs j d)) m ≡ false) (here i)
      (subst (λ m. node_lt m (at (get_or (map f xs) i (f d))) ≡ false) (here j) (far at (map f xs) up i j (f d) le (subst (λ n. j < n) (sym (length-map xs f)) l)))

  -- the records before a node stand in front
  pub before_first : (xs : List B) (n : Node) → IsOrderedBy at (map f xs) → IsPartitionedBy (λ x. node_lt (at (f x)) n) xs
  before_first xs n up i j d le l h = before_cases node_lt node_order n (node (get_or xs i d)) (node (get_or xs j d)) _ refl (shown_far xs up i j d le l) h

  -- the records that a node is not before stand in front
  pub after_last : (xs : List B) (n : Node) → IsOrderedBy at (map f xs) → IsPartitionedBy (λ x. not (node_lt n (at (f x)))) xs
  after_last xs n up i j d le l h =
      ap not (node_order.chain n (node (get_or xs j d)) (node (get_or xs i d)) (not-true _ h) (shown_far xs up i j d le l))

  -- a record goes between those that it is not before and those that it is before
  pub inserted_at : (xs : List B) (n : Node) (i : ℕ) → i ≤ length xs → AllWithin (λ x. not (node_lt n (at (f x))) ≡ true) xs 0 i →
      AllWithin (λ x. not (node_lt n (at (f x))) ≡ false) xs i (length xs) → (r : A) → at r ≡ n → insert_by at r (map f xs) ≡ map f
      (take i xs) ++ r ∷ map f (drop i xs)
  inserted_at [] n zero le low high r e = refl
  inserted_at [] n (suc i) le low high r e = refl
  inserted_at (x ∷ xs) n zero le low high r e =
      ap (λ b. cond b (r ∷ f x ∷ map f xs) (f x ∷ insert_by at r (map f xs))) (ap (λ m. node_lt m (node x)) e ∙ not-false _ (high 0 x (omega arith) (omega arith)))
  inserted_at (x ∷ xs) n (suc i) le low high r e =
      ap (λ b. cond b (r ∷ f x ∷ map f xs) (f x ∷ insert_by at r (map f xs))) (ap (λ m. node_lt m (node x)) e ∙ not-true _ (low 0 x (omega arith) (omega arith)))
      ∙ ap (λ ys. f x ∷ ys) (inserted_at xs n i (omega (arith, le)) (λ k d a b. low (suc k) d (omega arith) (omega (arith, b))) (λ k d a b. high (suc k) d (omega (arith, a)) (omega (arith, b))) r e)

  -- the record behind those that are before the node, where it is the node's
  pub found_here : (xs : List B) (n : Node) (i : ℕ) (here : B) → AllWithin (λ x. node_lt (at (f x)) n ≡ true) xs 0 i → slice_get xs i ≡ Some here →
      node_eq n (at (f here)) ≡ true → find_by at n (map f xs) ≡ Some (f here)
  found_here [] n i here low is e = absurd cc
  found_here (x ∷ xs) n zero here low is e =
      let same : x ≡ here = cc in
      ap (λ b. cond b (Some (f x)) (find_by at n (map f xs))) (ap (λ y. node_eq n (node y)) same ∙ e) ∙ ap (λ y. Some (f y)) same
  found_here (x ∷ xs) n (suc i) here low is e =
      ap (λ b. cond b (Some (f x)) (find_by at n (map f xs))) (other_before n (node x) (low 0 x (omega arith) (omega arith)))
      ∙ found_here xs n i here (λ k d a b. low (suc k) d (omega arith) (omega (arith, b))) is e

  -- no record of the node where it is before all
  none_after : (xs : List B) (n : Node) → ((k : ℕ) (d : B) → k < length xs → node_lt n (node (get_or xs k d)) ≡ true) → find_by at n (map f xs) ≡ None
  none_after [] n high = refl
  none_after (x ∷ xs) n high =
      ap (λ b. cond b (Some (f x)) (find_by at n (map f xs))) (other_after n (node x) (high 0 x (omega arith)))
      ∙ none_after xs n (λ k d l. high (suc k) d (omega (arith, l)))

  gone : (xs : List B) (n : Node) (i : ℕ) → Far xs → AllWithin (λ x. node_lt (at (f x)) n ≡ true) xs 0 i →
      AllWithin (λ x. node_lt (at (f x)) n ≡ false) xs i (length xs) → ((here : B) → slice_get xs i ≡ Some here → node_eq n (at (f here)) ≡ false) →
      find_by at n (map f xs) ≡ None
  gone [] n i up low high here = refl
  gone (x ∷ xs) n zero up low high here =
      let differ = here x refl in
      let first = strict_cases n (node x) _ refl (high 0 x (omega arith) (omega arith)) differ in
      ap (λ b. cond b (Some (f x)) (find_by at n (map f xs))) differ
      ∙ none_after xs n (λ k d l. after_cases n (node x) (node (get_or xs k d)) _ refl first (up 0 (suc k) d (omega arith) (omega (arith, l))))
  gone (x ∷ xs) n (suc i) up low high here =
      ap (λ b. cond b (Some (f x)) (find_by at n (map f xs))) (other_before n (node x) (low 0 x (omega arith) (omega arith)))
      ∙ gone xs n i (λ a b d le l. up (suc a) (suc b) d (omega (arith, le)) (omega (arith, l)))
      (λ k d a b. low (suc k) d (omega arith) (omega (arith, b))) (λ k d a b. high (suc k) d (omega (arith, a)) (omega (arith, b))) here

  -- no record of the node, where the record behind those that are before it is another's
  pub found_nowhere : (xs : List B) (n : Node) (i : ℕ) → IsOrderedBy at (map f xs) → AllWithin (λ x. node_lt (at (f x)) n ≡ true) xs 0 i →
      AllWithin (λ x. node_lt (at (f x)) n ≡ false) xs i (length xs) → ((here : B) → slice_get xs i ≡ Some here → node_eq n (at (f here)) ≡ false) →
      find_by at n (map f xs) ≡ None
  found_nowhere xs n i up low high here = gone xs n i (shown_far xs up) low high here

  pub other_here : (xs : List B) (n : Node) (i : ℕ) (here other : B) → slice_get xs i ≡ Some here → slice_get xs i ≡ Some other → node_eq n (at (f other)) ≡ false → node_eq n (at (f here)) ≡ false
  other_here xs n i here other is was e =
      let same = same_Some other here (sym was ∙ is) in
      ap (λ y. node_eq n (node y)) (sym same) ∙ e

  pub nothing_here : (xs : List B) (n : Node) (i : ℕ) (here : B) → slice_get xs i ≡ Some here → slice_get xs i ≡ None → node_eq n (at (f here)) ≡ false
  nothing_here xs n i here is gone = absurd cc
