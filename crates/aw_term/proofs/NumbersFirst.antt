-- Orders in which two numbers decide, or what follows them.
use Rattle.std.proofs.Common.{◌≡◌, ℕ, ◌<◌, Bool, true, false, cond, ap, sym, ◌∙◌, refl, arith, inl, inr}
use Rattle.std.specs.Prelude.{◌⊎◌, nat_eq, nat_lt, ◌&&◌, ◌||◌}
use Rattle.std.specs.Ordering.{nat_cmp, ordering_then, is_lt, is_eq}
use Rattle.std.specs.declared.cmp.Ordering.{Ordering}
use Rattle.std.specs.declared.cmp.Ordering.TheVariants.{Less, Equal, Greater}
use Rattle.std.proofs.lemmas.Bool.{cases_order, ltb-true, eqb-true}

-- the first of two numbers is lower, or they are one and the rest holds
abbrev pub then : ℕ → ℕ → Bool → Bool
then m n b = nat_lt m n || (nat_eq m n && b)

pub less : (m n : ℕ) (o : Ordering) (b : Bool) → is_lt o ≡ b → is_lt (ordering_then (nat_cmp m n) o) ≡ then m n b
less m n o b e = cases (nat_lt m n) (nat_eq m n)
  where
    cases : (x y : Bool) → is_lt (ordering_then (cond x Less (cond y Equal Greater)) o) ≡ (x || (y && b))
    cases true y = refl
    cases false true = e
    cases false false = refl

pub equal : (m n : ℕ) (o : Ordering) (b : Bool) → is_eq o ≡ b → is_eq (ordering_then (nat_cmp m n) o) ≡ (nat_eq m n && b)
equal m n o b e = cases (nat_lt m n) (nat_eq m n) refl refl
  where
    cases : (x y : Bool) → nat_lt m n ≡ x → nat_eq m n ≡ y → is_eq (ordering_then (cond x Less (cond y Equal Greater)) o) ≡ (y && b)
    cases true true p q =
        let l : m < n = ltb-true m n p in
        let s : m ≡ n = eqb-true m n q in
        absurd (omega (arith, l, s))
    cases true false p q = refl
    cases false true p q = e
    cases false false p q = refl

-- an order by two orders in turn
pub in_turn : (a b : Ordering) → is_lt (ordering_then a b) ≡ (is_lt a || (is_eq a && is_lt b))
in_turn Less b = refl
in_turn Equal b = refl
in_turn Greater b = refl

pub then_less : (m n : ℕ) (b : Bool) → m < n → then m n b ≡ true
then_less m n b l = let e : nat_lt m n ≡ true = grind (arith, l) in ap (λ x. x || (nat_eq m n && b)) e

then_more : (m n : ℕ) (b : Bool) → n < m → then m n b ≡ false
then_more m n b l =
    let e : nat_lt m n ≡ false = grind (arith, l) in
    let f : nat_eq m n ≡ false = grind (arith, l) in
    ap (λ x. x || (nat_eq m n && b)) e ∙ ap (λ x. x && b) f

pub then_same : (m n : ℕ) (b : Bool) → m ≡ n → then m n b ≡ b
then_same m n b s =
    let e : nat_lt m n ≡ false = grind (arith, s) in
    let f : nat_eq m n ≡ true = grind (arith, s) in
    ap (λ x. x || (nat_eq m n && b)) e ∙ ap (λ x. x && b) f

-- where the first numbers do not decide
then_false : (m n : ℕ) (b : Bool) → then m n b ≡ false → (n < m) ⊎ ((m ≡ n) × (b ≡ false))
then_false m n b f = elim (cases_order m n) [
  | inl e ↦ inr (e, sym (then_same m n b e) ∙ f)
  | inr w ↦ elim w [ inl l ↦ (let t = then_less m n b l in absurd cc) | inr l ↦ inl l ]
]

pub then_true : (m n : ℕ) (b : Bool) → then m n b ≡ true → (m < n) ⊎ ((m ≡ n) × (b ≡ true))
then_true m n b t = elim (cases_order m n) [
  | inl e ↦ inr (e, sym (then_same m n b e) ∙ t)
  | inr w ↦ elim w [ inl l ↦ inl l | inr l ↦ (let f = then_more m n b l in absurd cc) ]
]

pub tied_then : (m n : ℕ) (b c : Bool) → then m n b ≡ false → then n m c ≡ false → (m ≡ n) × (b ≡ false) × (c ≡ false)
tied_then m n b c f g = elim (then_false m n b f) [
  | inl l ↦ elim (then_false n m c g) [ inl h ↦ absurd (omega (arith, l, h)) | inr w ↦ absurd (omega (arith, l, w.0)) ]
  | inr v ↦ elim (then_false n m c g) [ inl h ↦ absurd (omega (arith, v.0, h)) | inr w ↦ (v.0, v.1, w.1) ]
]
