-- More things than places: a relation that holds from each to each later one comes back to one.
use Rattle.std.proofs.Common.{◌≡◌, ℕ, suc, ◌<◌, ◌≤◌, List, [], ◌∷◌, length, sym, ◌∙◌, subst, inl, inr, arith}
use Rattle.std.specs.Prelude.{◌⊎◌}
use Rattle.aw_list.specs.Members.{Member}
use Rattle.aw_list.proofs.Members.{never}
use Rattle.aw_term.specs.WellFormed.{Each, Later}

-- some of them, in order
pub data Some_of {A : Type 0} : List A → List A → Type 0 where
  all : Some_of [] []
  keep : {x : A} {xs ys : List A} → Some_of xs ys → Some_of (x ∷ xs) (x ∷ ys)
  skip : {x : A} {xs ys : List A} → Some_of xs ys → Some_of xs (x ∷ ys)

Each-some : {A : Type 0} (P : A → Type 0) {xs ys : List A} → Some_of xs ys → Each P ys → Each P xs
Each-some P all e = tt
Each-some P (keep s) e = (e.0, Each-some P s e.1)
Each-some P (skip s) e = Each-some P s e.1

Later-some : {A : Type 0} (R : A → A → Type 0) {xs ys : List A} → Some_of xs ys → Later R ys → Later R xs
Later-some R all e = tt
Later-some R (keep {x = x} s) e = (Each-some (R x) s e.0, Later-some R s e.1)
Later-some R (skip s) e = Later-some R s e.1

Some_of-self : {A : Type 0} (xs : List A) → Some_of xs xs
Some_of-self [] = all
Some_of-self (x ∷ xs) = keep (Some_of-self xs)

module _ {A : Type 0} (R : A → A → Type 0) where
  -- one that is y later than x, where x is y; or none of them is y
  none_left : (y x : A) (ys xs : List A) → x ≡ y → Each (R x) xs → Each (λ z. Member z (y ∷ ys)) xs → ((z : A) × R z z) ⊎ Each (λ z. Member z ys) xs
  none_left y x ys [] e r m = inr tt
  none_left y x ys (z ∷ zs) e r (inl f, m) = inl (x, subst (λ w. R x w) (f ∙ sym e) r.0)
  none_left y x ys (z ∷ zs) e r (inr f, m) = elim (none_left y x ys zs e r.1 m) [ inl a ↦ inl a | inr b ↦ inr (f, b) ]

  drop_one : (y : A) (ys xs : List A) → Later R xs → Each (λ z. Member z (y ∷ ys)) xs → ((z : A) × R z z) ⊎ ((zs : List A) × Some_of zs xs × Each (λ z. Member z ys) zs × (length xs ≤ suc (length zs)))
  drop_one y ys [] l m = inr ([], all, tt, omega arith)
  drop_one y ys (x ∷ xs) l (inl e, m) =
      elim (none_left y x ys xs e l.0 m) [ inl a ↦ inl a | inr b ↦ inr (xs, skip (Some_of-self xs), b, omega arith) ]
  drop_one y ys (x ∷ xs) l (inr e, m) =
      elim (drop_one y ys xs l.1 m) [ inl a ↦ inl a | inr b ↦ inr (x ∷ b.0, keep b.1, (e, b.2), more_of (length xs) (length b.0) b.3) ]
    where
      more_of : (a b : ℕ) → a ≤ suc b → suc a ≤ suc (suc b)
      more_of a b h = omega arith

  pub pigeon : (ys xs : List A) → Each (λ x. Member x ys) xs → Later R xs → length ys < length xs → (z : A) × R z z
  pigeon [] [] m l lt = absurd (omega arith)
  pigeon [] (x ∷ xs) m l lt = never m.0
  pigeon (y ∷ ys) xs m l lt =
      elim (drop_one y ys xs l m) [
        | inl a ↦ a
        | inr b ↦ pigeon ys b.0 b.2 (Later-some R b.1 l) (less (length xs) (length b.0) (length ys) lt b.3)
      ]
    where
      less : (a b c : ℕ) → suc c < a → a ≤ suc b → c < b
      less a b c h k = omega arith
