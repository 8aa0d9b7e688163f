-- The values of a slab in a row.
use Rattle.std.proofs.Common.{◌≡◌, ℕ, zero, suc, ◌+◌, ◌<◌, List, [], ◌∷◌, ◌++◌, length, Option, Some, None, refl, ap, sym, ◌∙◌, subst, arith, inl, inr}
use Rattle.std.specs.Prelude.{slice_get, slice_index_or, IsSome, ◌⊎◌}
use Rattle.std.specs.List.{slice_set}
use Rattle.std.proofs.lemmas.List.{length-append}
use Rattle.std.proofs.lemmas.Bool.{cases_eq}
use Rattle.aw_store.proofs.NameLemmas.{slice_get-last}
use Rattle.slab.specs.Slab.{Slab, get, Updates}
use Rattle.aw_cells.specs.Rows.{one_of, row, IsDense}
use Rattle.aw_cells.proofs.BodyLemmas.{slice_get-front}

module _ {T : Type 0} where
  some_of : (o : Option T) → IsSome o → (x : T) × (o ≡ Some x)
  some_of None w = absurd cc
  some_of (Some x) w = (x, refl)

  dense_below : (s : Slab T) (n : ℕ) → IsDense s (suc n) → IsDense s n
  dense_below s n d k l = d k (omega (arith, l))

  pub row-length : (s : Slab T) (n : ℕ) → IsDense s n → length (row s n) ≡ n
  row-length s zero d = refl
  row-length s (suc n) d =
      let v = some_of (get s n) (d n (omega arith)) in
      omega (arith, length-append (row s n) (one_of (get s n)), ap (λ o. length (one_of o)) v.1, row-length s n (dense_below s n d))

  -- the value at a key stands at its place
  pub row-at : (s : Slab T) (n k : ℕ) → IsDense s n → k < n → slice_get (row s n) k ≡ get s k
  row-at s zero k d l = absurd (omega (arith, l))
  row-at s (suc n) k d l = by (row-at s n k (dense_below s n d)) (cases_eq k n)
    where
      by : (k < n → slice_get (row s n) k ≡ get s k) → (k ≡ n) ⊎ (k ≡ n → ⊥) → slice_get (row s n ++ one_of (get s n)) k ≡ get s k
      by go (inl e) =
          let v = some_of (get s n) (d n (omega arith)) in
          ap (λ o. slice_get (row s n ++ one_of o) k) v.1
          ∙ ap (slice_get (row s n ++ v.0 ∷ [])) (e ∙ sym (row-length s n (dense_below s n d)))
          ∙ slice_get-last (row s n) v.0 ∙ sym v.1 ∙ ap (get s) (sym e)
      by go (inr f) =
          let m : k < n = omega (arith, l, f) in
          slice_get-front (row s n) (one_of (get s n)) k (omega (arith, m, row-length s n (dense_below s n d))) ∙ go m

  pub row-same : (s t : Slab T) (n : ℕ) → ((k : ℕ) → k < n → get t k ≡ get s k) → row t n ≡ row s n
  row-same s t zero f = refl
  row-same s t (suc n) f = λ i. row-same s t n (λ k l. f k (omega (arith, l))) i ++ one_of (f n (omega arith) i)

  -- a value at the next key stands at the end
  pub row-push : (s t : Slab T) (n : ℕ) (x : T) → Updates s t n (Some x) → row t (n + 1) ≡ row s n ++ x ∷ []
  row-push s t n x u =
      let e : n + 1 ≡ suc n = omega arith in
      ap (row t) e ∙ (λ i. row-same s t n (λ k l. u.others k (λ f. absurd (omega (arith, l, f)))) i ++ one_of (u.changed i))

  pub dense-push : (s t : Slab T) (n : ℕ) (x : T) → Updates s t n (Some x) → IsDense s n → IsDense t (n + 1)
  dense-push s t n x u d k l = elim (cases_eq k n) [
    | inl e ↦ subst (λ o. IsSome o) (sym (ap (get t) e ∙ u.changed)) refl
    | inr f ↦ subst (λ o. IsSome o) (sym (u.others k f)) (d k (omega (arith, l, f)))
  ]

  set-front : (xs ys : List T) (j : ℕ) (x : T) → j < length xs → slice_set (xs ++ ys) j x ≡ slice_set xs j x ++ ys
  set-front [] ys j x l = absurd (omega (arith, l))
  set-front (y ∷ xs) ys zero x l = refl
  set-front (y ∷ xs) ys (suc j) x l = ap (λ z. y ∷ z) (set-front xs ys j x (omega (arith, l)))

  set-last : (xs : List T) (y x : T) → slice_set (xs ++ y ∷ []) (length xs) x ≡ xs ++ x ∷ []
  set-last [] y x = refl
  set-last (z ∷ xs) y x = ap (λ w. z ∷ w) (set-last xs y x)

  -- a value that is written stands at its place
  pub row-set : (s t : Slab T) (n j : ℕ) (x : T) → Updates s t j (Some x) → IsDense s n → j < n → row t n ≡ slice_set (row s n) j x
  row-set s t zero j x u d l = absurd (omega (arith, l))
  row-set s t (suc n) j x u d l = by (row-set s t n j x u (dense_below s n d)) (cases_eq j n)
    where
      by : (j < n → row t n ≡ slice_set (row s n) j x) → (j ≡ n) ⊎ (j ≡ n → ⊥) → row t (suc n) ≡ slice_set (row s (suc n)) j x
      by go (inl e) =
          let v = some_of (get s n) (d n (omega arith)) in
          (λ i. row-same s t n (λ k m. u.others k (λ f. absurd (omega (arith, m, f, e)))) i ++ one_of ((ap (get t) (sym e) ∙ u.changed) i))
          ∙ sym (ap (λ o. slice_set (row s n ++ one_of o) j x) v.1 ∙ ap (λ k. slice_set (row s n ++ v.0 ∷ []) k x) (e ∙ sym (row-length s n (dense_below s n d))) ∙ set-last (row s n) v.0 x)
      by go (inr f) =
          let m : j < n = omega (arith, l, f) in
          (λ i. go m i ++ one_of (u.others n (λ e. f (sym e)) i))
          ∙ sym (set-front (row s n) (one_of (get s n)) j x (omega (arith, m, row-length s n (dense_below s n d))))

  pub dense-set : (s t : Slab T) (n j : ℕ) (x : T) → Updates s t j (Some x) → IsDense s n → IsDense t n
  dense-set s t n j x u d k l = elim (cases_eq k j) [
    | inl e ↦ subst (λ o. IsSome o) (sym (ap (get t) e ∙ u.changed)) refl
    | inr f ↦ subst (λ o. IsSome o) (sym (u.others k f)) (d k l)
  ]

  pub cell_at : (s : Slab T) (n k : ℕ) (x : T) → IsDense s n → k < n → get s k ≡ Some x → slice_get (row s n) k ≡ Some x
  cell_at s n k x d l e = row-at s n k d l ∙ e

  -- a value that went in at the next key
  pub row-named : (s t u : Slab T) (n k : ℕ) (x : T) → t.slots ≡ s.slots → k ≡ n → Updates t u k (Some x) → row u (n + 1) ≡ row s n ++ x ∷ []
  row-named s t u n k x e f w =
      row-push t u n x (subst (λ z. Updates t u z (Some x)) f w) ∙ ap (λ z. z ++ x ∷ []) (row-same s t n (λ i l. ap (λ z. slice_index_or z i None) e))

  pub dense-named : (s t u : Slab T) (n k : ℕ) (x : T) → t.slots ≡ s.slots → k ≡ n → Updates t u k (Some x) → IsDense s n → IsDense u (n + 1)
  dense-named s t u n k x e f w d =
      dense-push t u n x (subst (λ z. Updates t u z (Some x)) f w) (λ i l. subst (λ z. IsSome (slice_index_or z i None)) (sym e) (d i l))
