-- The values of places, when one place changes.
use Rattle.std.proofs.Common.{◌≡◌, ◌≢◌, ℕ, zero, suc, ◌+◌, ◌-◌, zero-add, Bool, false, cond, List, [], ◌∷◌, ◌++◌, get_or, Option, Some, None, count_by}
use Rattle.std.proofs.Common.{refl, sym, ap, ◌∙◌, subst, arith, ne_eqb, eq-eqb, nat_eq, length, ◌<◌, ◌≤◌, IfSome, is_some, take, append-nil}
use Rattle.std.proofs.lemmas.List.{length-append}
use Rattle.std.specs.Prelude.{not, filter}
use Rattle.std.proofs.lemmas.Bool.{cond-true, cond-false, not_from_false, not_from_true}
use Rattle.std.proofs.lemmas.Option.{none-some, same_Some}
use Rattle.std.proofs.lemmas.List.Sums.{sum_by-cons}
use Rattle.std.specs.List.Sorted.{IsPermutation}
use Rattle.std.proofs.lemmas.List.Sorted.{IsPermutation-refl, IsPermutation-cons, IsPermutation-trans, IsPermutation-middle, IsPermutation-push_more, length_permutation}
use Rattle.slab.specs.Slab.{Slab, get, slab_len, Updates}
use Rattle.std.specs.Option.{option_map}
use Rattle.aw_work.specs.declared.block.Triple.{Triple}
use Rattle.aw_work.specs.declared.bins.By.TheVariants as by
use Rattle.aw_work.specs.Triples.{values, Stored, left_out, triples, room, number_at, others_than, waiting_at}

module _ {T : Type 0} where
  abbrev front : Option T → List T → List T
  front None rest = rest
  front (Some t) rest = t ∷ rest

  abbrev later : List (Option T) → List (Option T)
  later [] = []
  later (x ∷ xs) = xs

  values_split : (xs : List (Option T)) → values xs ≡ front (get_or xs 0 None) (values (later xs))
  values_split [] = refl
  values_split (None ∷ xs) = refl
  values_split (Some t ∷ xs) = refl

  later_at : (xs : List (Option T)) (i : ℕ) → get_or (later xs) i None ≡ get_or xs (suc i) None
  later_at [] i = refl
  later_at (x ∷ xs) i = refl

  none_there : (ys : List (Option T)) → ((i : ℕ) → get_or ys i None ≡ None) → values ys ≡ []
  none_there [] h = refl
  none_there (None ∷ ys) h = none_there ys (λ i. h (suc i))
  none_there (Some t ∷ ys) h = absurd (none-some t (sym (h 0)))

  -- places with the same values at each index have the same values in order
  pub values_same : (xs ys : List (Option T)) → ((i : ℕ) → get_or ys i None ≡ get_or xs i None) → values xs ≡ values ys
  values_same [] ys h = sym (none_there ys h)
  values_same (x ∷ xs) ys h =
      values_split (x ∷ xs) ∙ ap (front x) (values_same xs (later ys) (λ i. later_at ys i ∙ h (suc i)))
      ∙ ap (λ o. front o (values (later ys))) (sym (h 0)) ∙ sym (values_split ys)

  front_more : (v : T) (o : Option T) (r s : List T) → IsPermutation (v ∷ r) s → IsPermutation (v ∷ front o r) (front o s)
  front_more v None r s h = h
  front_more v (Some w) r s h = IsPermutation-trans (v ∷ w ∷ r) (w ∷ v ∷ r) (w ∷ s) (IsPermutation-middle (v ∷ []) w r) (IsPermutation-cons w (v ∷ r) s h)

  -- a value in an empty place is one more value
  pub values_added : (key : ℕ) (xs ys : List (Option T)) (v : T) → get_or xs key None ≡ None → get_or ys key None ≡ Some v →
      ((i : ℕ) → i ≢ key → get_or ys i None ≡ get_or xs i None) → IsPermutation (v ∷ values xs) (values ys)
  values_added zero xs ys v free here others =
      let old : values xs ≡ values (later xs) = values_split xs ∙ ap (λ o. front o (values (later xs))) free in
      let new : values ys ≡ v ∷ values (later ys) = values_split ys ∙ ap (λ o. front o (values (later ys))) here in
      let same : values (later xs) ≡ values (later ys) = values_same (later xs) (later ys) (λ i. later_at ys i ∙ others (suc i) (λ e. omega (arith, e)) ∙ sym (later_at xs i)) in
      subst (IsPermutation (v ∷ values xs)) (ap (λ r. v ∷ r) (old ∙ same) ∙ sym new) (IsPermutation-refl (v ∷ values xs))
  values_added (suc key) xs ys v free here others =
      let more = values_added key (later xs) (later ys) v (later_at xs key ∙ free) (later_at ys key ∙ here) (λ i d. later_at ys i ∙ others (suc i) (λ e. d (omega (arith, e))) ∙ sym (later_at xs i)) in
      let new : values ys ≡ front (get_or xs 0 None) (values (later ys)) = values_split ys ∙ ap (λ o. front o (values (later ys))) (others 0 (λ e. omega (arith, e))) in
      subst (λ r. IsPermutation (v ∷ r) (values ys)) (sym (values_split xs)) (subst (IsPermutation (v ∷ front (get_or xs 0 None) (values (later xs))))
      (sym new) (front_more v (get_or xs 0 None) (values (later xs)) (values (later ys)) more))

  front_filter : (p : T → Bool) (o : Option T) (r s : List T) → filter p r ≡ filter p s → filter p (front o r) ≡ filter p (front o s)
  front_filter p None r s h = h
  front_filter p (Some w) r s h = ap (λ q. cond (p w) (w ∷ q) q) h

  -- a value that a test refuses may come or go
  pub values_filtered : (p : T → Bool) (key : ℕ) (xs ys : List (Option T)) (v : T) → p v ≡ false → get_or xs key None ≡ None →
      get_or ys key None ≡ Some v → ((i : ℕ) → i ≢ key → get_or ys i None ≡ get_or xs i None) → filter p (values xs) ≡ filter p (values ys)
  values_filtered p zero xs ys v refused free here others =
      let old : values xs ≡ values (later xs) = values_split xs ∙ ap (λ o. front o (values (later xs))) free in
      let new : values ys ≡ v ∷ values (later ys) = values_split ys ∙ ap (λ o. front o (values (later ys))) here in
      let same : values (later xs) ≡ values (later ys) = values_same (later xs) (later ys) (λ i. later_at ys i ∙ others (suc i) (λ e. omega (arith, e)) ∙ sym (later_at xs i)) in
      ap (filter p) (old ∙ same) ∙ sym (cond-false (p v) (v ∷ filter p (values (later ys))) (filter p (values (later ys))) refused) ∙ ap (filter p) (sym new)
  values_filtered p (suc key) xs ys v refused free here others =
      let more = values_filtered p key (later xs) (later ys) v refused (later_at xs key ∙ free) (later_at ys key ∙ here) (λ i d. later_at ys i
      ∙ others (suc i) (λ e. d (omega (arith, e))) ∙ sym (later_at xs i)) in
      let new : values ys ≡ front (get_or xs 0 None) (values (later ys)) = values_split ys ∙ ap (λ o. front o (values (later ys))) (others 0 (λ e. omega (arith, e))) in
      ap (filter p) (values_split xs) ∙ front_filter p (get_or xs 0 None) (values (later xs)) (values (later ys)) more ∙ ap (filter p) (sym new)

  -- none has a number that no place has
  pub none_counted : (f : T → ℕ) (n : ℕ) (xs : List (Option T)) → ((k : ℕ) (t : T) → get_or xs k None ≡ Some t → f t ≢ n) → count_by (λ t. nat_eq (f t) n) (values xs) ≡ 0
  none_counted f n [] h = refl
  none_counted f n (None ∷ xs) h = none_counted f n xs (λ k. h (suc k))
  none_counted f n (Some t ∷ xs) h =
      sum_by-cons (λ u. cond (nat_eq (f u) n) 1 0) t (values xs)
      ∙ ap (λ b. cond b 1 0 + count_by (λ u. nat_eq (f u) n) (values xs)) (ne_eqb (f t) n (h 0 t refl))
      ∙ zero-add _ ∙ none_counted f n xs (λ k. h (suc k))

  -- and all pass the test for another one
  pub all_others : (f : T → ℕ) (n : ℕ) (xs : List (Option T)) → ((k : ℕ) (t : T) → get_or xs k None ≡ Some t → f t ≢ n) → filter (λ t. not (nat_eq (f t) n)) (values xs) ≡ values xs
  all_others f n [] h = refl
  all_others f n (None ∷ xs) h = all_others f n xs (λ k. h (suc k))
  all_others f n (Some t ∷ xs) h =
      cond-true (not (nat_eq (f t) n)) _ _ (not_from_false _ (ne_eqb (f t) n (h 0 t refl)))
      ∙ ap (λ r. t ∷ r) (all_others f n xs (λ k. h (suc k)))

pub same_mapped : {T : Type 0} (f : T → ℕ) (o : Option T) (n : ℕ) (t : T) → option_map f o ≡ Some n → o ≡ Some t → f t ≡ n
same_mapped f o n t e s = same_Some (f t) n (sym (ap (option_map f) s) ∙ e)

-- of a block from which nothing was taken out all triples are in the slab
pub settled : (b : Stored) → b.taken ≡ None → triples b ≡ values b.pairs.slots
settled b free = ap (λ o. values (left_out o b.pairs).slots) free

pub settled_room : (b : Stored) → b.taken ≡ None → room b ≡ b.pairs.capacity - slab_len b.pairs
settled_room b free = ap (λ o. b.pairs.capacity - slab_len (left_out o b.pairs)) free

-- a triple of the node is taken out
pub dropped : (old new : Stored) (key node : ℕ) (r : Option Triple) → old.taken ≡ None → new.taken ≡ None → r ≡ get old.pairs key →
    number_at by.Node old.pairs key ≡ Some node → Updates old.pairs new.pairs key None →
    IfSome r (λ t. IsPermutation (triples old) (t ∷ triples new)) → IfSome r (λ t. room new ≡ room old + 1) →
    (others_than node (triples new) ≡ others_than node (triples old)) × (room new + length (triples new) ≡ room old + length (triples old))
    × (length (triples new) < length (triples old))
dropped old new key node None free still is has up perm more = absurd (none-some node (ap (option_map (λ (t : Triple). t.node)) is ∙ has))
dropped old new key node (Some t) free still is has up perm more =
    let own : t.node ≡ node = same_mapped (λ (u : Triple). u.node) (get old.pairs key) node t has (sym is) in
    let size : length (triples new) + 1 ≡ length (triples old) = omega (arith, length_permutation (triples old) (t ∷ triples new) perm) in
    let kept = values_filtered (λ u. not (nat_eq u.node node)) key new.pairs.slots old.pairs.slots t (not_from_true _ (eq-eqb t.node node own)) up.changed (sym is) (λ i d. sym (up.others i d)) in (
      ap (others_than node) (settled new still) ∙ kept ∙ ap (others_than node) (sym (settled old free)),
      omega (arith, size, more),
      omega (arith, size),
    )

-- where no key is under the slot, no triple waits for it
pub none_waits : (s : Slab Triple) (slot : ℕ) → ((key : ℕ) → number_at by.Slot s key ≢ Some slot) → waiting_at slot (values s.slots) ≡ 0
none_waits s slot none = none_counted (λ (t : Triple). t.slot) slot s.slots (λ k t here same. none k (ap (option_map (λ (u : Triple). u.slot)) here ∙ ap Some same))

-- where no key is under the node, all triples are of others
pub none_left_of : (s : Slab Triple) (node : ℕ) → ((key : ℕ) → number_at by.Node s key ≢ Some node) → others_than node (values s.slots) ≡ values s.slots
none_left_of s node none = all_others (λ (t : Triple). t.node) node s.slots (λ k t here same. none k (ap (option_map (λ (u : Triple). u.node)) here ∙ ap Some same))

abbrev listed : {T : Type 0} → Option T → List T
listed None = []
listed (Some t) = t ∷ []

-- as many values as places that have one
pub count_values : {T : Type 0} (xs : List (Option T)) → count_by is_some xs ≡ length (values xs)
count_values [] = refl
count_values (None ∷ rest) = omega (arith, count_values rest, sum_by-cons (λ o. cond (is_some o) 1 0) None rest)
count_values (Some t ∷ rest) = omega (arith, count_values rest, sum_by-cons (λ o. cond (is_some o) 1 0) (Some t) rest)

pub values_taken : {T : Type 0} (xs : List (Option T)) (k : ℕ) → values (take (suc k) xs) ≡ values (take k xs) ++ listed (get_or xs k None)
values_taken [] zero = refl
values_taken [] (suc k) = refl
values_taken (None ∷ xs) zero = refl
values_taken (Some t ∷ xs) zero = refl
values_taken (None ∷ xs) (suc k) = values_taken xs k
values_taken (Some t ∷ xs) (suc k) = ap (λ r. t ∷ r) (values_taken xs k)

pub fewer_taken : {T : Type 0} (xs : List (Option T)) (k : ℕ) → length (values (take k xs)) ≤ length (values xs)
fewer_taken [] zero = omega arith
fewer_taken [] (suc k) = omega arith
fewer_taken (x ∷ xs) zero = omega arith
fewer_taken (None ∷ xs) (suc k) = fewer_taken xs k
fewer_taken (Some t ∷ xs) (suc k) = omega (arith, fewer_taken xs k)

next_is : (k : ℕ) → k + 1 ≡ suc k
next_is k = omega arith

-- a value is still to come
pub room_for : {T : Type 0} (xs : List (Option T)) (k : ℕ) (t : T) → Some t ≡ get_or xs k None → length (values (take k xs)) < length (values xs)
room_for xs k t here =
    let more = ap length (values_taken xs k ∙ ap (λ o. values (take k xs) ++ listed o) (sym here)) in
    omega (arith, more, length-append (values (take k xs)) (t ∷ []), fewer_taken xs (suc k))

-- a value that comes is added
pub copied : {T : Type 0} (xs : List (Option T)) (k : ℕ) (t : T) (old new : List T) → Some t ≡ get_or xs k None → IsPermutation (values (take k xs))
    old → IsPermutation (t ∷ old) new → IsPermutation (values (take (k + 1) xs)) new
copied xs k t old new here all put =
    let is : values (take (k + 1) xs) ≡ values (take k xs) ++ t ∷ [] = ap (λ n. values (take n xs)) (next_is k) ∙ values_taken xs k ∙ ap (λ o. values (take k xs) ++ listed o) (sym here) in
    subst (λ ys. IsPermutation ys new) (sym is) (IsPermutation-push_more (values (take k xs)) old new t all put)

pub nothing_copied : {T : Type 0} (xs : List (Option T)) (k : ℕ) → get_or xs k None ≡ None → values (take (k + 1) xs) ≡ values (take k xs)
nothing_copied xs k none = ap (λ n. values (take n xs)) (next_is k) ∙ values_taken xs k ∙ ap (λ o. values (take k xs) ++ listed o) none ∙ append-nil (values (take k xs))

pub one_longer : {T : Type 0} (xs : List (Option T)) (k : ℕ) (t : T) → Some t ≡ get_or xs k None → length (values (take (k + 1) xs)) ≡ length (values (take k xs)) + 1
one_longer xs k t here = ap length (ap (λ n. values (take n xs)) (next_is k) ∙ values_taken xs k ∙ ap (λ o. values (take k xs) ++ listed o) (sym here)) ∙ length-append (values (take k xs)) (t ∷ [])
