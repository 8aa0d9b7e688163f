-- Numbers that are apart, and one put in between.
use Rattle.std.proofs.Common.{◌≡◌, ◌≢◌, ℕ, zero, suc, ◌⊎◌, inl, inr, List, [], ◌∷◌, Some, slice_get, refl, sym, ap, ◌∙◌, arith}
use Rattle.std.specs.Prelude.{insert}
use Rattle.aw_node_list.specs.Picked.{AreApart}

-- what is put in stands there, or stood before
pub inserted_one : (ns : List ℕ) (at n i m : ℕ) → slice_get (insert ns at n) i ≡ Some m → (m ≡ n) ⊎ ((j : ℕ) × (slice_get ns j ≡ Some m))
inserted_one [] zero n zero m e = inl cc
inserted_one [] zero n (suc i) m e = absurd cc
inserted_one [] (suc at) n zero m e = inl cc
inserted_one [] (suc at) n (suc i) m e = absurd cc
inserted_one (u ∷ ns) zero n zero m e = inl cc
inserted_one (u ∷ ns) zero n (suc i) m e = inr (i, e)
inserted_one (u ∷ ns) (suc at) n zero m e = inr (0, e)
inserted_one (u ∷ ns) (suc at) n (suc i) m e = later (inserted_one ns at n i m e)
  where
    later : (m ≡ n) ⊎ ((j : ℕ) × (slice_get ns j ≡ Some m)) → (m ≡ n) ⊎ ((j : ℕ) × (slice_get (u ∷ ns) j ≡ Some m))
    later (inl s) = inl s
    later (inr (j, f)) = inr (suc j, f)

apart_cons : (m : ℕ) (ns : List ℕ) → ((j : ℕ) → slice_get ns j ≢ Some m) → AreApart ns → AreApart (m ∷ ns)
apart_cons m ns lacks apart zero zero n e f = refl
apart_cons m ns lacks apart zero (suc j) n e f = absurd (lacks j (f ∙ sym e))
apart_cons m ns lacks apart (suc i) zero n e f = absurd (lacks i (e ∙ sym f))
apart_cons m ns lacks apart (suc i) (suc j) n e f = ap suc (apart i j n e f)

-- numbers behind one that are apart from it are apart
pub apart_tail : (m : ℕ) (ns : List ℕ) → AreApart (m ∷ ns) → AreApart ns
apart_tail m ns apart i j n e f = omega (arith, apart (suc i) (suc j) n e f)

-- the first number does not stand behind itself
pub apart_head : (m : ℕ) (ns : List ℕ) → AreApart (m ∷ ns) → (j : ℕ) → slice_get ns j ≢ Some m
apart_head m ns apart j e = absurd (omega (arith, apart 0 (suc j) m refl e))

-- apart stay those of which one is put in that was not there
pub apart_inserted : (ns : List ℕ) (at n : ℕ) → AreApart ns → ((j : ℕ) → slice_get ns j ≢ Some n) → AreApart (insert ns at n)
apart_inserted [] zero n apart lacks = apart_cons n [] lacks apart
apart_inserted [] (suc at) n apart lacks = apart_cons n [] lacks apart
apart_inserted (m ∷ ns) zero n apart lacks = apart_cons n (m ∷ ns) lacks apart
apart_inserted (m ∷ ns) (suc at) n apart lacks =
    apart_cons m (insert ns at n)
    (λ j e. absurd (other (inserted_one ns at n j m e)))
    (apart_inserted ns at n (apart_tail m ns apart) (λ j. lacks (suc j)))
  where
    other : (m ≡ n) ⊎ ((j : ℕ) × (slice_get ns j ≡ Some m)) → ⊥
    other (inl s) = lacks 0 (ap Some s)
    other (inr (j, f)) = apart_head m ns apart j f
