-- The order of references: it is the one that the program compares by, and of any two references one comes first, or they are one.
use Rattle.std.proofs.Common.{◌≡◌, ℕ, true, false, refl, ap, sym, ◌∙◌, subst, inl, inr, arith}
use Rattle.std.specs.Prelude.{◌⊎◌, ◌&&◌, ◌||◌, nat_lt}
use Rattle.std.specs.Ordering.{nat_cmp, is_lt}
use Rattle.std.proofs.lemmas.Bool.{and_from, and_parts, cases_lt, lt-ltb, ltb-true, or_cases, or_left, or_right}
use Rattle.std.proofs.lemmas.Bool.Decides.{nat_tests}
use Rattle.aw_name.specs.Order.{node_cmp, slot_cmp, ref_cmp}
use Rattle.aw_term.specs.Trees.{Never}
use Rattle.aw_term.specs.Names.{Slot, Result, Part, Ref, node_eq, node_lt, slot_lt, ref_lt}
use Rattle.aw_name.specs.SameNodes.{node_is, node_self}
use Rattle.aw_term.proofs.NumbersFirst.{in_turn}
use Rattle.aw_term.proofs.NodeOrder.{node_before, node_alike, node-no, node-trans, node-tri}
use Rattle.aw_term.proofs.StrictOrders.{tied_by}

slot_before : (a b : Slot) → is_lt (slot_cmp a b) ≡ slot_lt a b
slot_before (Result i) (Result j) = alone i j
  where
    alone : (m n : ℕ) → is_lt (nat_cmp m n) ≡ nat_lt m n
    alone m n = grind (arith, nat_tests)
slot_before (Result i) (Part j) = refl
slot_before (Part i) (Result j) = refl
slot_before (Part i) (Part j) = alone i j
  where
    alone : (m n : ℕ) → is_lt (nat_cmp m n) ≡ nat_lt m n
    alone m n = grind (arith, nat_tests)

pub ref_before : (a b : Ref) → is_lt (ref_cmp a b) ≡ ref_lt a b
ref_before a b =
    in_turn (node_cmp a.node b.node) (slot_cmp a.slot b.slot)
    ∙ (λ i. node_before a.node b.node i || (node_alike a.node b.node i && slot_before a.slot b.slot i))

pub slot-no : (a : Slot) → slot_lt a a ≡ true → Never
slot-no (Result i) e = let z = ltb-true i i e in absurd (omega (arith, z))
slot-no (Part i) e = let z = ltb-true i i e in absurd (omega (arith, z))

pub slot-trans : (a b c : Slot) → slot_lt a b ≡ true → slot_lt b c ≡ true → slot_lt a c ≡ true
slot-trans (Result i) (Result j) (Result k) e f = let x = ltb-true i j e in let y = ltb-true j k f in lt-ltb i k (omega (arith, x, y))
slot-trans (Part i) (Part j) (Part k) e f = let x = ltb-true i j e in let y = ltb-true j k f in lt-ltb i k (omega (arith, x, y))
slot-trans (Result i) (Result j) (Part k) e f = refl
slot-trans (Result i) (Part j) (Part k) e f = refl
slot-trans (Result i) (Part j) (Result k) e f = absurd cc
slot-trans (Part i) (Result j) c e f = absurd cc
slot-trans (Part i) (Part j) (Result k) e f = absurd cc

pub slot-tri : (a b : Slot) → (slot_lt a b ≡ true) ⊎ ((a ≡ b) ⊎ (slot_lt b a ≡ true))
slot-tri (Result i) (Result j) = elim (cases_lt i j) [
  | inl x ↦ inl (lt-ltb i j x)
  | inr x ↦ elim (cases_lt j i)
      [ inl y ↦ inr (inr (lt-ltb j i y)) | inr y ↦ (let e : i ≡ j = omega arith in inr (inl (ap Result e))) ]
]
slot-tri (Part i) (Part j) = elim (cases_lt i j) [
  | inl x ↦ inl (lt-ltb i j x)
  | inr x ↦ elim (cases_lt j i) [
    | inl y ↦ inr (inr (lt-ltb j i y))
    | inr
        y ↦ (let e : i ≡ j = omega arith in inr (inl (ap Part e)))
  ]
]
slot-tri (Result i) (Part j) = inl refl
slot-tri (Part i) (Result j) = inr (inr refl)

-- the nodes decide, or the slots do
pub ref-split : (a b : Ref) → ref_lt a b ≡ true → (node_lt a.node b.node ≡ true) ⊎ ((a.node ≡ b.node) × (slot_lt a.slot b.slot ≡ true))
ref-split a b e = elim (or_cases _ _ e) [ inl x ↦ inl x | inr x ↦ (let (p, q) = and_parts _ _ x in inr (node_is a.node b.node p, q)) ]

pub ref-slot : (a b : Ref) → a.node ≡ b.node → slot_lt a.slot b.slot ≡ true → ref_lt a b ≡ true
ref-slot a b p q =
    or_right (node_lt a.node b.node) (node_eq a.node b.node && slot_lt a.slot b.slot)
    (and_from (node_eq a.node b.node) (slot_lt a.slot b.slot) (subst (λ n. node_eq a.node n ≡ true) p (node_self a.node)) q)

pub ref-no : (a : Ref) → ref_lt a a ≡ true → Never
ref-no a e = elim (ref-split a a e) [ inl x ↦ node-no a.node x | inr x ↦ slot-no a.slot x.1 ]

pub ref-trans : (a b c : Ref) → ref_lt a b ≡ true → ref_lt b c ≡ true → ref_lt a c ≡ true
ref-trans a b c e f =
    elim (ref-split a b e) [
      | inl x ↦ elim (ref-split b c f) [
        | inl y ↦ or_left _ _ (node-trans a.node b.node c.node x y)
        | inr y ↦ or_left _ _ (subst (λ n. node_lt a.node n ≡ true) y.0 x)
      ]
      | inr x ↦ elim (ref-split b c f) [
        | inl y ↦ or_left _ _ (subst (λ n. node_lt n c.node ≡ true) (sym x.0) y)
        | inr y ↦ ref-slot a c (x.0 ∙ y.0) (slot-trans a.slot b.slot c.slot x.1 y.1)
      ]
    ]

pub ref-tri : (a b : Ref) → (ref_lt a b ≡ true) ⊎ ((a ≡ b) ⊎ (ref_lt b a ≡ true))
ref-tri a b =
    elim (node-tri a.node b.node) [
      | inl x ↦ inl (or_left _ _ x)
      | inr x ↦ elim x [
        | inl p ↦ elim (slot-tri a.slot b.slot) [
          | inl y ↦ inl (ref-slot a b p y)
          | inr y ↦ elim y [
            | inl q ↦ inr (inl (λ i. record { node = p i; slot = q i }))
            | inr z ↦ inr (inr (ref-slot b a (sym p) z))
          ]
        ]
        | inr y ↦ inr (inr (or_left _ _ y))
      ]
    ]

-- where neither comes before the other, they are one
pub ref_tied : (a b : Ref) → ref_lt a b ≡ false → ref_lt b a ≡ false → a ≡ b
ref_tied a b e f = tied_by ref_lt ref-no ref-trans ref-tri a b e f
