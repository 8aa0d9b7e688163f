use Rattle.std.proofs.Common.{rules, ◌≡◌, ◌∙◌, Option, None, Some, length, refl, ap, sym}
use Rattle.std.specs.Prelude.{IfNone, nat_lt}
use Rattle.std.proofs.lemmas.List.Sorted.{IsPartitionPoint-from_clause, IsPartitionedBy-ltb}
use Rattle.std.proofs.lemmas.Option.{slice_get_read, slice_get_past, same_Some}
use Rattle.aw_standing.specs.declared.record.Mark.{Mark}
use Rattle.aw_standing.specs.Records.{mark_rule}
use Rattle.aw_standing.proofs.Rising.{not_falling, none_of_rule}
use Rattle.aw_standing.proofs.record.sought_place.Goals as goal

none_some : {A : Type 0} (x : A) → None ≡ Some x → ⊥
none_some x e = absurd cc

said : {A : Type 0} (P : Type 0) (o : Option A) → P → IfNone o P
said P None p = p
said P (Some x) p = tt

pub returns-in_err-get-clause-none : goal.returns-in_err-get-clause-none
returns-in_err-get-clause-none c =
    let ms = c.args.marks.now in
    let rule = c.args.rule in
    let at = c.partition_point-at.result in
    let gone = slice_get_past ms at c.in_err-get.ensures.lookup.3 in
    said _ c.from_residual.result (λ rising.
    let point = IsPartitionPoint-from_clause (λ (m : Mark). nat_lt m.rule rule) ms at c.partition_point-at.ensures.partitioned
    (IsPartitionedBy-ltb mark_rule ms rule (not_falling ms rising)) (λ a q p k. search rules) in
    none_of_rule ms rising rule at point.0 point.1 (λ m here e. absurd (none_some m (sym gone ∙ here))))

pub returns-then-branch-rule-clause-found : goal.returns-then-branch-rule-clause-found
returns-then-branch-rule-clause-found c =
    let ms = c.args.marks.now in
    let m = c.in_ok-get.field-0.now in
    let found = c.in_ok-get.ensures.lookup in
    (m, slice_get_read ms (length ms) c.partition_point-at.result m refl found.3.0 found.1, c.if-branch-rule.true)

pub returns-else-branch-rule-clause-none : goal.returns-else-branch-rule-clause-none
returns-else-branch-rule-clause-none c rising =
    let ms = c.args.marks.now in
    let rule = c.args.rule in
    let at = c.partition_point-at.result in
    let k = c.in_ok-get.field-0.now in
    let found = c.in_ok-get.ensures.lookup in
    let there = slice_get_read ms (length ms) at k refl found.3.0 found.1 in
    let point = IsPartitionPoint-from_clause (λ (m : Mark). nat_lt m.rule rule) ms at c.partition_point-at.ensures.partitioned
    (IsPartitionedBy-ltb mark_rule ms rule (not_falling ms rising)) (λ a q p k. search rules) in
    none_of_rule ms rising rule at point.0 point.1 (λ m here e. c.if-branch-rule.false (ap mark_rule (same_Some k m (sym there ∙ here)) ∙ e))
