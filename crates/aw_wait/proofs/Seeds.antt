-- Pairs that are added one after the other, and what all rules hold up.
use Rattle.std.proofs.Common.{◌≡◌, ℕ, suc, ◌+◌, ◌<◌, ◌≤◌, List, length, Some, slice_get, sym, ◌∙◌, subst, inl, inr, arith}
use Rattle.std.specs.Prelude.{◌⊎◌, ◌↔◌}
use Rattle.aw_list.proofs.Members.{never, below_or_at, member_got, member_place}
use Rattle.aw_term.specs.Trees.{Never}
use Rattle.aw_term.specs.Rules as P
use Rattle.aw_term.specs.Rules.{Term}
use Rattle.aw_grammar.specs.declared.grammar.Grammar.{Grammar}
use Rattle.aw_iograph.specs.declared.io.Io.{Io}
use Rattle.aw_iograph.specs.Occurrences.{item}
use Rattle.aw_iograph.specs.Pairs.{Has, HasSort, IsFor}
use Rattle.aw_accept.specs.Acyclic.{gives}
use Rattle.aw_wait.specs.Waiting.{Looks, IsHeldUp}
use Rattle.aw_wait.specs.Seeding.{Adds, AtValue, AtPattern, IsHeldUpBy, IsHeldUpBefore}

-- nothing was added
pub adds_none : (io : Io) (P : ℕ → ℕ → ℕ → Type 0) → ((s i j : ℕ) → P s i j → Never) → Adds io io P
adds_none io P none = record { made = λ g m. m; sorts = λ s m. m; pairs = λ s i j. ((λ x. inl x), (λ x. elim x [ inl a ↦ a | inr b ↦ never (none s i j b) ])) }

-- one was added
pub adds_one : (old new : Io) (s i j : ℕ) → ((g : Grammar) → IsFor g old → IsFor g new) → ((t : ℕ) → HasSort old t → HasSort new t) → Has new s i j → ((t k l : ℕ) → Has old t k l → Has new t k l)
    → ((t k l : ℕ) → Has new t k l → Has old t k l ⊎ ((t ≡ s) × (k ≡ i) × (l ≡ j))) → Adds old new (λ t k l. (t ≡ s) × (k ≡ i) × (l ≡ j))
adds_one old new s i j made sorts there kept only = record {
  made = made;
  sorts = sorts;
  pairs = λ t k l. (
    only t k l,
    (λ x. elim x [
      | inl was ↦ kept t k l was
      | inr (a, b, c) ↦ subst (λ u. Has new u k l) (sym a) (subst (λ u. Has new s u l) (sym b) (subst (λ u. Has new s i u) (sym c) there))
    ]),
  );
}

-- first some, and then more
pub adds_both : (a b c : Io) (P Q R : ℕ → ℕ → ℕ → Type 0) → Adds a b P → Adds b c Q → ((s i j : ℕ) → P s i j ⊎ Q s i j → R s i j) → ((s i j : ℕ) → R s i j → P s i j ⊎ Q s i j) → Adds a c R
adds_both a b c P Q R first then there back = record {
  made = λ g m. then.made g (first.made g m);
  sorts = λ s m. then.sorts s (first.sorts s m);
  pairs = λ s i j. (
    (λ x. elim ((then.pairs s i j).0 x) [
      | inl y ↦ elim ((first.pairs s i j).0 y) [ inl old ↦ inl old | inr p ↦ inr (there s i j (inl p)) ]
      | inr q ↦ inr (there s i j (inr q))
    ]),
    (λ x. elim x [
      | inl old ↦ (then.pairs s i j).1 (inl ((first.pairs s i j).1 (inl old)))
      | inr r ↦ elim (back s i j r) [ inl p ↦ (then.pairs s i j).1 (inl ((first.pairs s i j).1 (inr p))) | inr q ↦ (then.pairs s i j).1 (inr q) ]
    ]),
  );
}

-- the pairs of one result more
pub one_result : (sort value n : ℕ) (s i j : ℕ) → AtValue sort n value s i j ⊎ ((s ≡ sort) × (i ≡ value) × (j ≡ n + 1)) → AtValue sort (n + 1) value s i j
one_result sort value n s i j (inl (a, b, low, le)) = (a, b, low, omega (arith, le))
one_result sort value n s i j (inr (a, b, e)) = (a, b, omega (arith, e), omega (arith, e))

pub last_result : (sort value n : ℕ) (s i j : ℕ) → AtValue sort (n + 1) value s i j → AtValue sort n value s i j ⊎ ((s ≡ sort) × (i ≡ value) × (j ≡ n + 1))
last_result sort value n s i j (a, b, low, le) =
    let l : j < suc n + 1 = omega (arith, le) in
    elim (below_or_at j (suc n) l) [ inl less ↦ inl (a, b, low, omega (arith, less)) | inr same ↦ inr (a, b, omega (arith, same)) ]

-- what a rule holds up by its first n patterns
abbrev pub ByFirst : P.Grammar → P.Rule → ℕ → ℕ → ℕ → ℕ → Type 0
ByFirst g r n s i j = (i ≤ n) × IsHeldUpBy g r s i j

item_zero : {A : Type 0} (xs : List A) (x : A) → item xs 0 ≡ Some x → Never
item_zero xs x e = absurd cc

-- by one pattern more
pub one_pattern : (g : P.Grammar) (r : P.Rule) (n : ℕ) (p : Term) → slice_get r.patterns n ≡ Some p → (s i j : ℕ) → ByFirst g r n s i j
    ⊎ AtPattern r.sort (gives g r.sort) (n + 1) p s i j → ByFirst g r (n + 1) s i j
one_pattern g r n p at s i j (inl (le, held)) = (omega (arith, le), held)
one_pattern g r n p at s i j (inr (l, (a, b, low, few))) =
    let e : n + 1 ≡ suc n = omega arith in
    (omega (arith, b), (a, (p, subst (λ k. item r.patterns k ≡ Some p) (sym (b ∙ e)) at, l), low, few))

pub last_pattern : (g : P.Grammar) (r : P.Rule) (n : ℕ) (p : Term) → slice_get r.patterns n ≡ Some p → (s i j : ℕ) → ByFirst g r (n + 1) s i j →
    ByFirst g r n s i j ⊎ AtPattern r.sort (gives g r.sort) (n + 1) p s i j
last_pattern g r n p at s i j (le, (a, (q, got, l), low, few)) =
    let lt : i < n + 1 + 1 = omega (arith, le) in
    elim (below_or_at i (n + 1) lt) [
      | inl less ↦ inl (omega (arith, less), (a, (q, got, l), low, few))
      | inr same ↦
          (let e : n + 1 ≡ suc n = omega arith in
          let here : slice_get r.patterns n ≡ Some q = subst (λ k. item r.patterns k ≡ Some q) (same ∙ e) got in
          let one : q ≡ p = cc (sym here ∙ at) in
          inr (subst Looks one l, (a, same, low, few)))
    ]

-- one rule more
pub one_rule : (g : P.Grammar) (n : ℕ) (r : P.Rule) → slice_get g.rules n ≡ Some r → (s i j : ℕ) → IsHeldUpBefore g n s i j ⊎ IsHeldUpBy g r s i j → IsHeldUpBefore g (n + 1) s i j
one_rule g n r at s i j (inl (k, lt, q, got, held)) = (k, omega (arith, lt), q, got, held)
one_rule g n r at s i j (inr held) = (n, omega arith, r, at, held)

pub last_rule : (g : P.Grammar) (n : ℕ) (r : P.Rule) → slice_get g.rules n ≡ Some r → (s i j : ℕ) → IsHeldUpBefore g (n + 1) s i j → IsHeldUpBefore g n s i j ⊎ IsHeldUpBy g r s i j
last_rule g n r at s i j (k, lt, q, got, held) =
    elim (below_or_at k n lt) [
      | inl less ↦ inl (k, less, q, got, held)
      | inr same ↦
          (let here : slice_get g.rules n ≡ Some q = subst (λ m. slice_get g.rules m ≡ Some q) same got in
          let one : q ≡ r = cc (sym here ∙ at) in
          inr (subst (λ x. IsHeldUpBy g x s i j) one held))
    ]

-- all rules
pub all_held_up : (g : P.Grammar) (n : ℕ) → length g.rules ≤ n → (s i j : ℕ) → IsHeldUp g s i j → IsHeldUpBefore g n s i j
all_held_up g n le s i j ((r, p, m, e, got, l), low, few) =
    let (k, lt, at) = member_place g.rules r m in
    (k, omega (arith, lt, le), r, at, (sym e, (p, got, l), low, subst (λ t. j ≤ gives g t) (sym e) few))

pub held_up_all : (g : P.Grammar) (n : ℕ) (s i j : ℕ) → IsHeldUpBefore g n s i j → IsHeldUp g s i j
held_up_all g n s i j (k, lt, r, at, (e, (p, got, l), low, few)) =
    ((r, p, member_got g.rules k r at, sym e, got, l), low, subst (λ t. j ≤ gives g t) (sym e) few)

pub rule_more : (g : P.Grammar) (r : P.Rule) (n count value : ℕ) (p : Term) (a b c : Io) → slice_get r.patterns n ≡ Some p → count ≡ gives g r.sort →
    value ≡ n + 1 → Adds a b (ByFirst g r n) → Adds b c (AtPattern r.sort count value p) → Adds a c (ByFirst g r (n + 1))
rule_more g r n count value p a b c at many next first then =
    adds_both a b c (ByFirst g r n) (AtPattern r.sort (gives g r.sort) (n + 1) p) (ByFirst g r (n + 1)) first
    (subst (λ m. Adds b c (AtPattern r.sort m (n + 1) p)) many (subst (λ k. Adds b c (AtPattern r.sort count k p)) next then)) (one_pattern g r n p at) (last_pattern g r n p at)

pub rule_none : (g : P.Grammar) (r : P.Rule) (s i j : ℕ) → ByFirst g r 0 s i j → Never
rule_none g r s i j (le, (a, (p, got, l), low, few)) = let z : i ≡ 0 = omega (arith, le) in item_zero r.patterns p (subst (λ k. item r.patterns k ≡ Some p) z got)

pub rules_more : (g : P.Grammar) (n : ℕ) (r : P.Rule) (a b c : Io) → slice_get g.rules n ≡ Some r → Adds a b (IsHeldUpBefore g n) → Adds b c (IsHeldUpBy g r) → Adds a c (IsHeldUpBefore g (n + 1))
rules_more g n r a b c at first then = adds_both a b c (IsHeldUpBefore g n) (IsHeldUpBy g r) (IsHeldUpBefore g (n + 1)) first then (one_rule g n r at) (last_rule g n r at)

pub rules_none : (g : P.Grammar) (s i j : ℕ) → IsHeldUpBefore g 0 s i j → Never
rules_none g s i j (k, lt, r, at, x) = absurd (omega (arith, lt))

pub rules_all : (g : P.Grammar) (n : ℕ) (a b : Io) → ((s i j : ℕ) → Has a s i j → ⊥) → length g.rules ≤ n → Adds a b (IsHeldUpBefore g n) → (s i j : ℕ) → Has b s i j ↔ IsHeldUp g s i j
rules_all g n a b empty le added s i j = (
  (λ has. elim ((added.pairs s i j).0 has) [ inl was ↦ absurd (empty s i j was) | inr held ↦ held_up_all g n s i j held ]),
  (λ held. (added.pairs s i j).1 (inr (all_held_up g n le s i j held))),
)
