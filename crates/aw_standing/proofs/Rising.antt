-- The marks of a node are in the order of their rules, and there is one for each rule of its sort.
use Rattle.std.proofs.Common.{◌≡◌, ◌≢◌, ℕ, zero, suc, ◌+◌, ◌<◌, ◌≤◌, ◌⊎◌, inl, inr, Bool, true, false, cond, List, [], ◌∷◌, length, map, Some, slice_get, get_or, refl, sym, ap, ◌∙◌, arith}
use Rattle.std.specs.Prelude.{nat_eq, nat_le, nat_lt}
use Rattle.std.specs.List.{AllWithin}
use Rattle.std.specs.List.Sorted.{IsNonDecreasingBy}
use Rattle.std.proofs.lemmas.Bool.{eq-eqb, ltb-true, ltb-false}
use Rattle.std.proofs.lemmas.Bool.Decides.{eqb_tells, leb_tells}
use Rattle.std.proofs.lemmas.Option.{slice_get-get_or, slice_get_within, same_Some}
use Rattle.aw_term.specs.Rules.{Rule}
use Rattle.aw_standing.specs.declared.record.Mark.{Mark}
use Rattle.aw_standing.specs.Records.{AreRising, mark_rule, rules_of}

-- the numbers of the rules of a sort are not below the first
rules_past : (s i : ℕ) (rules : List Rule) (j n : ℕ) → slice_get (rules_of s i rules) j ≡ Some n → i ≤ n
rules_past s i [] j n e = absurd cc
rules_past s i (rule ∷ rules) j n e = by (λ q f. omega (arith, rules_past s (suc i) rules q n f)) (nat_eq rule.sort s) j e
  where
    by : ((q : ℕ) → slice_get (rules_of s (suc i) rules) q ≡ Some n → i ≤ n) → (b : Bool) (j : ℕ) → slice_get (cond b (i ∷ rules_of s (suc i) rules) (rules_of s (suc i) rules)) j ≡ Some n → i ≤ n
    by rest false j e = rest j e
    by rest true zero e = let same : i ≡ n = cc in omega (arith, same)
    by rest true (suc j) e = rest j e

-- they rise
pub rules_rise : (s i : ℕ) (rules : List Rule) → AreRising (rules_of s i rules)
rules_rise s i [] a b m n l e f = absurd cc
rules_rise s i (rule ∷ rules) a b m n l e f = by (λ p q t u v. rules_rise s (suc i) rules p q m n t u v) (nat_eq rule.sort s) a b l e f
  where
    by : ((p q : ℕ) → p < q → slice_get (rules_of s (suc i) rules) p ≡ Some m → slice_get (rules_of s (suc i) rules) q ≡ Some n → m < n) → (c : Bool) (a b : ℕ) → a < b →
        slice_get (cond c (i ∷ rules_of s (suc i) rules) (rules_of s (suc i) rules)) a ≡ Some m → slice_get (cond c (i ∷ rules_of s (suc i) rules) (rules_of s (suc i) rules)) b ≡ Some n → m < n
    by rest false a b l e f = rest a b l e f
    by rest true a zero l e f = absurd (omega (arith, l))
    by rest true zero (suc b) l e f = let same : i ≡ m = cc in omega (arith, same, rules_past s (suc i) rules b n f)
    by rest true (suc a) (suc b) l e f = rest a b (omega (arith, l)) e f

-- each rule of the sort is among them
pub rule_among : (s i : ℕ) (rules : List Rule) (q : ℕ) (rule : Rule) → slice_get rules q ≡ Some rule → rule.sort ≡ s → (j : ℕ) × (slice_get (rules_of s i rules) j ≡ Some (q + i))
rule_among s i [] q rule e same = absurd cc
rule_among s i (r ∷ rules) zero rule e same =
    let here : r ≡ rule = cc in
    let t : nat_eq r.sort s ≡ true = eq-eqb r.sort s (ap (λ (x : Rule). x.sort) here ∙ same) in
    (0, ap (λ b. slice_get (cond b (i ∷ rules_of s (suc i) rules) (rules_of s (suc i) rules)) 0) t ∙ ap Some (omega arith))
rule_among s i (r ∷ rules) (suc q) rule e same = by (later (rule_among s (suc i) rules q rule e same)) (nat_eq r.sort s)
  where
    later : (j : ℕ) × (slice_get (rules_of s (suc i) rules) j ≡ Some (q + suc i)) → (j : ℕ) × (slice_get (rules_of s (suc i) rules) j ≡ Some (suc q + i))
    later (j, f) = (j, f ∙ ap Some (omega arith))

    by : ((j : ℕ) × (slice_get (rules_of s (suc i) rules) j ≡ Some (suc q + i))) → (b : Bool) →
        (j : ℕ) × (slice_get (cond b (i ∷ rules_of s (suc i) rules) (rules_of s (suc i) rules)) j ≡ Some (suc q + i))
    by found false = found
    by (j, f) true = (suc j, f)

-- the mark behind a number of a rule
pub mark_behind : (ms : List Mark) (j n : ℕ) → slice_get (map mark_rule ms) j ≡ Some n → (m : Mark) × (slice_get ms j ≡ Some m) × (m.rule ≡ n)
mark_behind [] j n e = absurd cc
mark_behind (m ∷ ms) zero n e = (m, refl, cc)
mark_behind (m ∷ ms) (suc j) n e = mark_behind ms j n e

rule_ahead : (ms : List Mark) (j : ℕ) (m : Mark) → slice_get ms j ≡ Some m → slice_get (map mark_rule ms) j ≡ Some m.rule
rule_ahead [] j m e = absurd cc
rule_ahead (k ∷ ms) zero m e = let same : k ≡ m = cc in ap (λ (x : Mark). Some x.rule) same
rule_ahead (k ∷ ms) (suc j) m e = rule_ahead ms j m e

in_order : (i j : ℕ) → (i < j) ⊎ ((i ≡ j) ⊎ (j < i))
in_order i j = by (eqb_tells i j) (leb_tells i j)
  where
    by : ((nat_eq i j ≡ true) × (i ≡ j)) ⊎ ((nat_eq i j ≡ false) × (i ≢ j)) → ((nat_le i j ≡ true) × (i ≤ j)) ⊎ ((nat_le i j ≡ false) × (j < i)) → (i < j) ⊎ ((i ≡ j) ⊎ (j < i))
    by (inl (t, same)) q = inr (inl same)
    by (inr (t, other)) (inl (u, le)) = inl (omega (arith, other, le))
    by (inr (t, other)) (inr (u, more)) = inr (inr more)

module _ (ms : List Mark) (rising : AreRising (map mark_rule ms)) where
  below : (i j : ℕ) (m k : Mark) → i < j → slice_get ms i ≡ Some m → slice_get ms j ≡ Some k → m.rule < k.rule
  below i j m k l e f = rising i j m.rule k.rule l (rule_ahead ms i m e) (rule_ahead ms j k f)

  -- so the rules of the marks do not fall
  pub not_falling : IsNonDecreasingBy mark_rule ms
  not_falling i j d le l = by (in_order i j)
    where
      by : (i < j) ⊎ ((i ≡ j) ⊎ (j < i)) → mark_rule (get_or ms i d) ≤ mark_rule (get_or ms j d)
      by (inl less) = omega (arith, below i j (get_or ms i d) (get_or ms j d) less (slice_get-get_or ms i d (omega (arith, le, l))) (slice_get-get_or ms j d l))
      by (inr (inl same)) = omega (arith, ap (λ n. mark_rule (get_or ms n d)) same)
      by (inr (inr more)) = absurd (omega (arith, le, more))

  -- a rule has one mark
  pub one_of_rule : (i j : ℕ) (m k : Mark) → slice_get ms i ≡ Some m → slice_get ms j ≡ Some k → m.rule ≡ k.rule → m ≡ k
  one_of_rule i j m k e f same = by (in_order i j)
    where
      by : (i < j) ⊎ ((i ≡ j) ⊎ (j < i)) → m ≡ k
      by (inl less) = absurd (omega (arith, same, below i j m k less e f))
      by (inr (inl here)) = same_Some m k (sym e ∙ ap (slice_get ms) here ∙ f)
      by (inr (inr more)) = absurd (omega (arith, same, below j i k m more f e))

  -- which is read at its place
  pub read_of_rule : (rule at j : ℕ) (d k m : Mark) → slice_get ms at ≡ Some k → k.rule ≡ rule → slice_get ms j ≡ Some m → m.rule ≡ rule → get_or ms at d ≡ m
  read_of_rule rule at j d k m found of_rule here same =
      same_Some _ _ (sym (slice_get-get_or ms at d (slice_get_within ms at k found)) ∙ found) ∙ one_of_rule at j k m found here (of_rule ∙ sym same)

  -- and none, where the first mark that is not before the rule is of another one
  pub none_of_rule : (rule at : ℕ) → AllWithin (λ (m : Mark). nat_lt m.rule rule ≡ true) ms 0 at → AllWithin (λ (m : Mark). nat_lt m.rule rule ≡ false) ms at (length ms) →
      ((m : Mark) → slice_get ms at ≡ Some m → m.rule ≢ rule) → (j : ℕ) (m : Mark) → slice_get ms j ≡ Some m → m.rule ≢ rule
  none_of_rule rule at low high other j m e same = by (in_order j at)
    where
      within : j < length ms
      within = slice_get_within ms j m e

      read : get_or ms j m ≡ m
      read = same_Some _ _ (sym (slice_get-get_or ms j m within) ∙ e)

      by : (j < at) ⊎ ((j ≡ at) ⊎ (at < j)) → ⊥
      by (inl less) = omega (arith, same, ltb-true m.rule rule (ap (λ (x : Mark). nat_lt x.rule rule) (sym read) ∙ low j m (omega arith) less))
      by (inr (inl here)) = other m (ap (slice_get ms) (sym here) ∙ e) same
      by (inr (inr more)) =
          let k = get_or ms at m in
          let inside : at < length ms = omega (arith, more, within) in
          omega (arith, same, ltb-false k.rule rule (high at m (omega arith) inside), below at j k m more (slice_get-get_or ms at m inside) e)
