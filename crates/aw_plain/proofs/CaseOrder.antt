-- The order of cases, which the order of nodes follows.
use Rattle.std.proofs.Common.{◌≡◌, ℕ, ◌<◌, Bool, true, false, ◌∙◌, refl, arith, inl, inr, subst}
use Rattle.std.specs.Prelude.{nat_lt}
use Rattle.std.specs.Cmp.{IsTotalOrder, IsStrictWeakOrder}
use Rattle.std.specs.Ordering.{nat_cmp, ordering_then, is_lt}
use Rattle.std.specs.declared.cmp.Ordering.{Ordering}
use Rattle.std.proofs.lemmas.Bool.{ltb-true}
use Rattle.std.proofs.lemmas.Bool.Decides.{nat_tests}
use Rattle.std.proofs.lemmas.Cmp.{nat_cmp_total, on_total, then_total}
use Rattle.std.proofs.lemmas.List.MinMax.{ranks_by}
use Rattle.aw_term.specs.Names.{Node, node_lt}
use Rattle.aw_term.proofs.NumbersFirst.{less, then_less, then_same, then_true}
use Rattle.aw_plain.specs.Cases.{case_lt}

abbrev case_cmp : Node → Node → Ordering
case_cmp a b = ordering_then (nat_cmp a.start b.start) (nat_cmp a.case b.case)

case_total : IsTotalOrder case_cmp
case_total = then_total (on_total (λ (n : Node). n.start) nat_cmp_total) (on_total (λ (n : Node). n.case) nat_cmp_total)

case_before : (a b : Node) → is_lt (case_cmp a b) ≡ case_lt a b
case_before a b = less a.start b.start _ _ (alone a.case b.case)
  where
    alone : (m n : ℕ) → is_lt (nat_cmp m n) ≡ nat_lt m n
    alone m n = grind (arith, nat_tests)

pub case_order : IsStrictWeakOrder case_lt
case_order = subst IsStrictWeakOrder (λ i a b. case_before a b i) (ranks_by case_total (λ n. n))

case_first : (a b : Node) → case_lt a b ≡ true → node_lt a b ≡ true
case_first a b t = elim (then_true a.start b.start _ t) [
  | inl l ↦ then_less a.start b.start _ l
  | inr w ↦ (let l : a.case < b.case = ltb-true a.case b.case w.1 in then_same a.start b.start _ w.0 ∙ then_less a.case b.case _ l)
]

-- a node that does not come before another is of no case before the other's
pub case_not_before : (a b : Node) → node_lt a b ≡ false → case_lt a b ≡ false
case_not_before a b e = cases (case_lt a b) refl
  where
    cases : (x : Bool) → case_lt a b ≡ x → x ≡ false
    cases true t = let l = case_first a b t in absurd cc
    cases false t = refl

-- a case is not before itself
pub case_self : (a b : Node) → (a.start ≡ b.start) × (a.case ≡ b.case) → case_lt a b ≡ true → ⊥
case_self a b same t = elim (then_true a.start b.start _ t) [
  | inl l ↦ omega (arith, l, same.0)
  | inr w ↦ (let l : a.case < b.case = ltb-true a.case b.case w.1 in omega (arith, l, same.1))
]
