-- The order of steps.
use Rattle.std.specs.Prelude.{◌≡◌}
use Rattle.std.specs.Ordering.{nat_cmp, ordering_then, eq_by_cmp}
use Rattle.std.specs.Cmp.{IsTotalOrder, then_total, on_total, nat_cmp_total, both_tied, unsigned_ties}
use Rattle.std.specs.declared.cmp.Ordering.{Ordering}
use Rattle.aw_name.specs.declared.node.Step.{Step}
use Rattle.aw_name.specs.Same.{step_eq}

-- by rule, and then by child
abbrev pub step_cmp : Step → Step → Ordering
step_cmp a b = ordering_then (nat_cmp a.rule b.rule) (nat_cmp a.child b.child)

-- of any two steps one comes first, or they are one
pub step_total : IsTotalOrder step_cmp
step_total = then_total (on_total (λ (s : Step). s.rule) nat_cmp_total) (on_total (λ (s : Step). s.child) nat_cmp_total)

-- two steps are one exactly where neither comes first
pub step_ties : (a b : Step) → step_eq a b ≡ eq_by_cmp step_cmp a b
step_ties a b = both_tied _ _ (nat_cmp a.rule b.rule) (nat_cmp a.child b.child) (unsigned_ties a.rule b.rule) (unsigned_ties a.child b.child)
