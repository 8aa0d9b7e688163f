-- References that are put in order one after the other.
use Rattle.std.proofs.Common.{◌≡◌, ℕ, zero, suc, ◌<◌, ◌≤◌, ◌⊎◌, inl, inr, Bool, true, false, cond, List, [], ◌∷◌, length, get_or, Some, slice_get, refl, ap, sym, subst, ◌∙◌, arith}
use Rattle.std.specs.Prelude.{insert, filter}
use Rattle.std.specs.List.{AllWithin}
use Rattle.std.specs.List.Sorted.{IsPartitionedBy}
use Rattle.aw_term.specs.Names.{Ref, ref_eq, ref_lt}
use Rattle.aw_term.specs.WellFormed.{Each}
use Rattle.aw_term.proofs.RefOrder.{ref-no, ref-trans, ref_tied}
use Rattle.aw_term.proofs.RefTests.{ref_eq-true, ref_eq-self}
use Rattle.aw_law_sites.specs.InOrder.{insert_ref, in_order}
use Rattle.aw_site.specs.Ordered.{AreInOrder}

each_at : (P : Ref → Type 0) (ys : List Ref) (k : ℕ) (e : Ref) → Each P ys → k < length ys → P (get_or ys k e)
each_at P [] k e each m = absurd (omega (arith, m))
each_at P (y ∷ ys) zero e each m = each.0
each_at P (y ∷ ys) (suc k) e each m = each_at P ys k e each.1 (omega (arith, m))

far : (xs : List Ref) → AreInOrder xs → (i j : ℕ) (d : Ref) → i < j → j < length xs → ref_lt (get_or xs i d) (get_or xs j d) ≡ true
far [] up i j d lt l = absurd (omega (arith, l))
far (x ∷ xs) up i zero d lt l = absurd (omega (arith, lt))
far (x ∷ xs) up zero (suc j) d lt l = each_at (λ y. ref_lt x y ≡ true) xs j d up.0 (omega (arith, l))
far (x ∷ xs) up (suc i) (suc j) d lt l = far xs up.1 i j d (omega (arith, lt)) (omega (arith, l))

not_after : (r x : Ref) (b : Bool) → ref_lt r x ≡ b → ref_lt x r ≡ true → b ≡ false
not_after r x true e f = elim (ref-no r (ref-trans r x r e f)) [ ]
not_after r x false e f = refl

not_same : (r x : Ref) (b : Bool) → ref_eq r x ≡ b → ref_lt x r ≡ true → b ≡ false
not_same r x true e f = elim (ref-no x (subst (λ z. ref_lt x z ≡ true) (ref_eq-true r x e) f)) [ ]
not_same r x false e f = refl

comes_after : (r x : Ref) (b : Bool) → ref_lt r x ≡ b → ref_lt x r ≡ false → ref_eq r x ≡ false → b ≡ true
comes_after r x true e f other = refl
comes_after r x false e f other = let t : ref_eq r x ≡ true = subst (λ z. ref_eq r z ≡ true) (ref_tied r x e f) (ref_eq-self r) in absurd cc

one_more : (i j : ℕ) → (i ≡ j) ⊎ (i < j) → (suc i ≡ suc j) ⊎ (suc i < suc j)
one_more i j (inl s) = inl (ap suc s)
one_more i j (inr m) = inr (omega (arith, m))

same_or_less : (i j : ℕ) → i ≤ j → (i ≡ j) ⊎ (i < j)
same_or_less zero zero e = inl refl
same_or_less zero (suc j) e = inr (omega arith)
same_or_less (suc i) zero e = absurd (omega (arith, e))
same_or_less (suc i) (suc j) e = one_more i j (same_or_less i j (omega (arith, e)))

-- the references before one stand in front
pub before_first : (xs : List Ref) (r : Ref) → AreInOrder xs → IsPartitionedBy (λ x. ref_lt x r) xs
before_first xs r up i j d le l t = by (same_or_less i j le)
  where
    by : (i ≡ j) ⊎ (i < j) → ref_lt (get_or xs i d) r ≡ true
    by (inl s) = ap (λ k. ref_lt (get_or xs k d) r) s ∙ t
    by (inr m) = ref-trans (get_or xs i d) (get_or xs j d) r (far xs up i j d m l) t

skipped : (r x : Ref) (xs : List Ref) → ref_lt x r ≡ true → insert_ref r (x ∷ xs) ≡ x ∷ insert_ref r xs
skipped r x xs e =
    ap (λ b. cond b (r ∷ x ∷ xs) (cond (ref_eq r x) (x ∷ xs) (x ∷ insert_ref r xs))) (not_after r x _ refl e)
    ∙ ap (λ b. cond b (x ∷ xs) (x ∷ insert_ref r xs)) (not_same r x _ refl e)

-- it is put behind those that are before it, where it does not stand there
pub put_at : (xs : List Ref) (r : Ref) (i : ℕ) → i ≤ length xs → AllWithin (λ x. ref_lt x r ≡ true) xs 0 i → AllWithin (λ x. ref_lt x r ≡ false) xs i (length xs) →
    ((x : Ref) → slice_get xs i ≡ Some x → ref_eq r x ≡ false) → insert_ref r xs ≡ insert xs i r
put_at [] r zero l low high here = refl
put_at [] r (suc i) l low high here = absurd (omega (arith, l))
put_at (x ∷ xs) r zero l low high here =
    ap (λ b. cond b (r ∷ x ∷ xs) (cond (ref_eq r x) (x ∷ xs) (x ∷ insert_ref r xs)))
    (comes_after r x _ refl (high 0 x (omega arith) (omega arith)) (here x refl))
put_at (x ∷ xs) r (suc i) l low high here =
    skipped r x xs (low 0 x (omega arith) (omega arith))
    ∙ ap (λ ys. x ∷ ys) (put_at xs r i (omega (arith, l)) (λ k d a b. low (suc k) d (omega arith) (omega (arith, b))) (λ k d a b. high (suc k) d (omega (arith, a)) (omega (arith, b))) here)

-- it stands behind those that are before it already
pub stands_at : (xs : List Ref) (r : Ref) (i : ℕ) (x : Ref) → AllWithin (λ x. ref_lt x r ≡ true) xs 0 i → slice_get xs i ≡ Some x → ref_eq r x ≡ true → xs ≡ insert_ref r xs
stands_at [] r i x low at same = absurd cc
stands_at (y ∷ ys) r zero x low at same =
    let is : y ≡ x = cc in
    let one : r ≡ y = ref_eq-true r x same ∙ sym is in
    sym (ap (λ b. cond b (r ∷ y ∷ ys) (cond (ref_eq r y) (y ∷ ys) (y ∷ insert_ref r ys))) (never_before _ (ap (ref_lt r) (sym one)))
    ∙ ap (λ b. cond b (y ∷ ys) (y ∷ insert_ref r ys)) (ap (ref_eq r) is ∙ same))
  where
    never_before : (b : Bool) → b ≡ ref_lt r r → b ≡ false
    never_before true e = elim (ref-no r (sym e)) [ ]
    never_before false e = refl
stands_at (y ∷ ys) r (suc i) x low at same =
    ap (λ zs. y ∷ zs) (stands_at ys r i x (λ k d a b. low (suc k) d (omega arith) (omega (arith, b))) at same)
    ∙ sym (skipped r y ys (low 0 y (omega arith) (omega arith)))

each_inserted : (P : Ref → Type 0) (r : Ref) (xs : List Ref) → P r → Each P xs → Each P (insert_ref r xs)
each_inserted P r [] here each = (here, tt)
each_inserted P r (x ∷ xs) here each = by (each_inserted P r xs here each.1) (ref_lt r x) (ref_eq r x)
  where
    by : Each P (insert_ref r xs) → (b e : Bool) → Each P (cond b (r ∷ x ∷ xs) (cond e (x ∷ xs) (x ∷ insert_ref r xs)))
    by rest true e = (here, each)
    by rest false true = each
    by rest false false = (each.0, rest)

-- what is before a reference is before all that are after it
all_after : (r x : Ref) (ys : List Ref) → ref_lt r x ≡ true → Each (λ y. ref_lt x y ≡ true) ys → Each (λ y. ref_lt r y ≡ true) ys
all_after r x [] e each = tt
all_after r x (y ∷ ys) e each = (ref-trans r x y e each.0, all_after r x ys e each.1)

-- to put a reference in keeps the order
pub ordered_inserted : (r : Ref) (xs : List Ref) → AreInOrder xs → AreInOrder (insert_ref r xs)
ordered_inserted r [] up = (tt, tt)
ordered_inserted r (x ∷ xs) up = by (ordered_inserted r xs up.1) (ref_lt r x) (ref_eq r x) refl refl
  where
    before : (b : Bool) → ref_lt x r ≡ b → ref_lt r x ≡ false → ref_eq r x ≡ false → ref_lt x r ≡ true
    before true e f other = e
    before false e f other = let t : ref_eq r x ≡ true = subst (λ z. ref_eq r z ≡ true) (ref_tied r x f e) (ref_eq-self r) in absurd cc

    by : AreInOrder (insert_ref r xs) → (b e : Bool) → ref_lt r x ≡ b → ref_eq r x ≡ e → AreInOrder (cond b (r ∷ x ∷ xs) (cond e (x ∷ xs) (x ∷ insert_ref r xs)))
    by rest true e f g = ((f, all_after r x xs f up.0), up)
    by rest false true f g = up
    by rest false false f g = (each_inserted (λ y. ref_lt x y ≡ true) r xs (before _ refl f g) up.0, rest)

ordered_all : (rs : List Ref) → AreInOrder (in_order rs)
ordered_all [] = tt
ordered_all (r ∷ rs) = ordered_inserted r (in_order rs) (ordered_all rs)

first_put : (r : Ref) (xs : List Ref) → Each (λ x. ref_lt r x ≡ true) xs → insert_ref r xs ≡ r ∷ xs
first_put r [] each = refl
first_put r (x ∷ xs) each = ap (λ b. cond b (r ∷ x ∷ xs) (cond (ref_eq r x) (x ∷ xs) (x ∷ insert_ref r xs))) each.0

each_filtered : (P : Ref → Type 0) (p : Ref → Bool) (xs : List Ref) → Each P xs → Each P (filter p xs)
each_filtered P p [] each = tt
each_filtered P p (x ∷ xs) each = by (p x) (each_filtered P p xs each.1)
  where
    by : (b : Bool) → Each P (filter p xs) → Each P (cond b (x ∷ filter p xs) (filter p xs))
    by true rest = (each.0, rest)
    by false rest = rest

-- what is left where one is put among others of which only some are taken
module _ (p : Ref → Bool) (r x : Ref) (xs : List Ref) where
  stood : (b e : Bool) → ref_lt r x ≡ b → ref_eq r x ≡ e → insert_ref r (x ∷ filter p xs) ≡ cond b (r ∷ x ∷ filter p xs) (cond e (x ∷ filter p xs) (x ∷ insert_ref r (filter p xs)))
  stood b e f g =
      ap (λ z. cond z (r ∷ x ∷ filter p xs) (cond (ref_eq r x) (x ∷ filter p xs) (x ∷ insert_ref r (filter p xs)))) f
      ∙ ap (λ z. cond b (r ∷ x ∷ filter p xs) (cond z (x ∷ filter p xs) (x ∷ insert_ref r (filter p xs)))) g

  put_cases : (b e q y : Bool) → ref_lt r x ≡ b → ref_eq r x ≡ e → p r ≡ q → p x ≡ y → Each (λ z. ref_lt x z ≡ true) xs →
      filter p (insert_ref r xs) ≡ cond q (insert_ref r (filter p xs)) (filter p xs) →
      filter p (cond b (r ∷ x ∷ xs) (cond e (x ∷ xs) (x ∷ insert_ref r xs)))
      ≡ cond q (insert_ref r (cond y (x ∷ filter p xs) (filter p xs))) (cond y (x ∷ filter p xs) (filter p xs))
  put_cases true e false y fb fe fq fy after rest =
      ap (λ z. cond z (r ∷ filter p (x ∷ xs)) (filter p (x ∷ xs))) fq ∙ ap (λ z. cond z (x ∷ filter p xs) (filter p xs)) fy
  put_cases true e true y fb fe fq fy after rest =
      let same : filter p (x ∷ xs) ≡ cond y (x ∷ filter p xs) (filter p xs) = ap (λ z. cond z (x ∷ filter p xs) (filter p xs)) fy in
      ap (λ z. cond z (r ∷ filter p (x ∷ xs)) (filter p (x ∷ xs))) fq
      ∙ ap (λ z. r ∷ z) same
      ∙ sym (first_put r (cond y (x ∷ filter p xs) (filter p xs))
      (subst (Each (λ z. ref_lt r z ≡ true)) same (each_filtered (λ z. ref_lt r z ≡ true) p (x ∷ xs) (fb, all_after r x xs fb after))))
  put_cases false true false y fb fe fq fy after rest = ap (λ z. cond z (x ∷ filter p xs) (filter p xs)) fy
  put_cases false true true true fb fe fq fy after rest =
      ap (λ z. cond z (x ∷ filter p xs) (filter p xs)) fy ∙ sym (stood false true fb fe)
  put_cases false true true false fb fe fq fy after rest = let s : p r ≡ p x = ap p (ref_eq-true r x fe) in absurd cc
  put_cases false false false y fb fe fq fy after rest =
      ap (λ z. cond z (x ∷ filter p (insert_ref r xs)) (filter p (insert_ref r xs))) fy ∙ ap (λ z. cond y (x ∷ z) z) rest
  put_cases false false true true fb fe fq fy after rest =
      ap (λ z. cond z (x ∷ filter p (insert_ref r xs)) (filter p (insert_ref r xs))) fy ∙ ap (λ z. x ∷ z) rest ∙ sym (stood false false fb fe)
  put_cases false false true false fb fe fq fy after rest =
      ap (λ z. cond z (x ∷ filter p (insert_ref r xs)) (filter p (insert_ref r xs))) fy ∙ rest

filtered_put : (p : Ref → Bool) (r : Ref) (xs : List Ref) → AreInOrder xs → filter p (insert_ref r xs) ≡ cond (p r) (insert_ref r (filter p xs)) (filter p xs)
filtered_put p r [] up = in_cond (p r)
  where
    in_cond : (b : Bool) → cond b (r ∷ []) [] ≡ cond b (insert_ref r []) []
    in_cond true = refl
    in_cond false = refl
filtered_put p r (x ∷ xs) up = put_cases p r x xs _ _ _ _ refl refl refl refl up.0 (filtered_put p r xs up.1)

-- to take some of the references in order is to put those in order that are taken
pub filtered_in_order : (p : Ref → Bool) (rs : List Ref) → filter p (in_order rs) ≡ in_order (filter p rs)
filtered_in_order p [] = refl
filtered_in_order p (r ∷ rs) =
    filtered_put p r (in_order rs) (ordered_all rs)
    ∙ ap (λ zs. cond (p r) (insert_ref r zs) zs) (filtered_in_order p rs)
    ∙ in_cond (p r)
  where
    in_cond : (b : Bool) → cond b (insert_ref r (in_order (filter p rs))) (in_order (filter p rs)) ≡ in_order (cond b (r ∷ filter p rs) (filter p rs))
    in_cond true = refl
    in_cond false = refl
