-- What follows of a test in whose order any two values compare.
use Rattle.std.proofs.Common.{◌≡◌, Bool, true, false, inl, inr, refl}
use Rattle.std.specs.Prelude.{◌⊎◌}
use Rattle.std.specs.Cmp.{IsStrictWeakOrder}
use Rattle.aw_term.specs.Trees.{Never}

module _ {A : Type 0} (lt : A → A → Bool) (order : IsStrictWeakOrder lt) where
  -- nothing comes before itself
  pub not_self : (a : A) → lt a a ≡ true → Never
  not_self a e = let f = order.one_way a a e in absurd cc

  -- what comes before another comes before all that the other comes before
  pub through : (a b c : A) → lt a b ≡ true → lt b c ≡ true → lt a c ≡ true
  through a b c e f = cases (lt a c) refl
    where
      cases : (x : Bool) → lt a c ≡ x → x ≡ true
      cases true p = refl
      cases false p = let z = order.chain a c b p (order.one_way b c f) in absurd cc

  -- what is not before another is before nothing that the other is not before
  pub before_cases : (n a b : A) (x : Bool) → lt a n ≡ x → lt b a ≡ false → lt b n ≡ true → x ≡ true
  before_cases n a b true e up l = refl
  before_cases n a b false e up l = let z = order.chain b a n up e in absurd cc

  -- of any two one comes first, or they are one
  pub either : ((a b : A) → lt a b ≡ false → lt b a ≡ false → a ≡ b) → (a b : A) → (lt a b ≡ true) ⊎ ((a ≡ b) ⊎ (lt b a ≡ true))
  either tied a b = cases (lt a b) (lt b a) refl refl
    where
      cases : (x y : Bool) → lt a b ≡ x → lt b a ≡ y → (lt a b ≡ true) ⊎ ((a ≡ b) ⊎ (lt b a ≡ true))
      cases true y e f = inl e
      cases false true e f = inr (inr f)
      cases false false e f = inr (inl (tied a b e f))

module _ {A : Type 0} (lt : A → A → Bool) (no : (a : A) → lt a a ≡ true → Never) (trans : (a b c : A) → lt a b ≡ true → lt b c ≡ true → lt a c ≡ true)
    (tri : (a b : A) → (lt a b ≡ true) ⊎ ((a ≡ b) ⊎ (lt b a ≡ true))) where
  pub tied_by : (a b : A) → lt a b ≡ false → lt b a ≡ false → a ≡ b
  tied_by a b e f = elim (tri a b) [
    | inl l ↦ absurd cc
    | inr w ↦ elim w [ inl s ↦ s | inr l ↦ absurd cc ]
  ]
