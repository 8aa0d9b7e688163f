use Rattle.std.proofs.Common.{◌≡◌, ◌*◌, ◌<◌, length, Some, sym, ◌∙◌, arith}
use Rattle.aw_iograph.proofs.Sweeps.{visit_kept, visit_only}
use Rattle.aw_iograph.proofs.settle.visit.Goals as goal

pub add_rows-added-requires-clause-sort : goal.add_rows-added-requires-clause-sort
add_rows-added-requires-clause-sort c =
    let declared : c.small_rule-rule.result.now.sort < length c.args.g.now.sorts = c.small_rule-rule.ensures.declared in
    let made : length c.args.io.now.marks.items ≡ length c.args.g.now.sorts * 64 = c.requires.made in
    omega arith

pub returns-clause-kept : goal.returns-clause-kept
returns-clause-kept c r got =
    let found : Some c.small_rule-rule.result.now ≡ Some r = sym c.small_rule-rule.ensures.value ∙ got in
    let same : c.small_rule-rule.result.now ≡ r = cc in
    visit_kept c.small_rule-rule.result.now r c.args.g.now.sorts c.args.io.now c.add_rows-added.new.io c.in_ok-rows.rows.items c.as_slice.result.now
    same c.as_slice.ensures.value c.in_ok-rows.ensures.there c.add_rows-added.ensures.there

pub returns-clause-only : goal.returns-clause-only
returns-clause-only c =
    visit_only c.args.g.now c.args.rule c.small_rule-rule.result.now c.args.io.now c.add_rows-added.new.io c.in_ok-rows.rows.items
    c.as_slice.result.now c.small_rule-rule.ensures.value c.as_slice.ensures.value c.in_ok-rows.ensures.only c.add_rows-added.ensures.only
