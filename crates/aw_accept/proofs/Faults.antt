-- Circles over the relation that was found, and over the dependence relation.
use Rattle.std.proofs.Common.{◌≡◌, ℕ, zero, suc, ◌+◌, ◌<◌, ◌≤◌, List, [], ◌∷◌, length, Option, Some, None, slice_get, refl, subst, inl, inr, arith}
use Rattle.std.specs.Prelude.{◌↔◌}
use Rattle.aw_list.proofs.Members.{below_or_at, member_place}
use Rattle.aw_term.specs.Rules as P
use Rattle.aw_iograph.specs.declared.occ.Occ.{Occ}
use Rattle.aw_iograph.specs.Dependence.{LeastOnCircle, HasNoCircle}
use Rattle.aw_iograph.proofs.Relations.{plus_map}
use Rattle.aw_accept.specs.declared.refused.Fault.{Fault}
use Rattle.aw_accept.specs.Circular.{NoneBelow, LeastFaultOver}

-- two equal relations have the same least occurrence on a circle
pub least_same : (rel rel' : ℕ → ℕ → ℕ → Type 0) (r : P.Rule) (found : Option Occ) → ((s i j : ℕ) → rel s i j ↔ rel' s i j) → LeastOnCircle rel r found → LeastOnCircle rel' r found
least_same rel rel' r None same none = λ o w. none o (plus_map r rel' rel (λ s i j x. (same s i j).1 x) w)
least_same rel rel' r (Some o) same least = (plus_map r rel rel' (λ s i j x. (same s i j).0 x) least.0, λ u w. least.1 u (plus_map r rel' rel (λ s i j x. (same s i j).1 x) w))

-- and the same least fault
pub fault_same : (g : P.Grammar) (rel rel' : ℕ → ℕ → ℕ → Type 0) (found : Option Fault) → ((s i j : ℕ) → rel s i j ↔ rel' s i j) → LeastFaultOver g rel found → LeastFaultOver g rel' found
fault_same g rel rel' None same none = λ r m. least_same rel rel' r None same (none r m)
fault_same g rel rel' (Some fault) same ((r, got, least), below) =
    ((r, got, least_same rel rel' r (Some fault.occ) same least), λ k lt r' got'. least_same rel rel' r' None same (below k lt r' got'))

pub none_more : (g : P.Grammar) (rel : ℕ → ℕ → ℕ → Type 0) (n : ℕ) → NoneBelow g rel n → ((r : P.Rule) → slice_get g.rules n ≡ Some r → LeastOnCircle rel r None) → NoneBelow g rel (n + 1)
none_more g rel n below here k lt r got = elim (below_or_at k n lt) [ inl less ↦ below k less r got | inr at ↦ here r (subst (λ m. slice_get g.rules m ≡ Some r) at got) ]

pub none_all : (g : P.Grammar) (rel : ℕ → ℕ → ℕ → Type 0) (n : ℕ) → length g.rules ≤ n → NoneBelow g rel n → HasNoCircle g rel
none_all g rel n le below r m o w =
    let (k, lt, got) = member_place g.rules r m in
    let less : k < n = omega arith in below k less r got o w

-- there is a rule with each number below their count
pub rule_at : (rules : List P.Rule) (k : ℕ) → k < length rules → (r : P.Rule) × (slice_get rules k ≡ Some r)
rule_at [] k lt = absurd (omega arith)
rule_at (r ∷ rs) zero lt = (r, refl)
rule_at (r ∷ rs) (suc k) lt = let below : k < length rs = omega arith in rule_at rs k below
