use Rattle.std.proofs.Common.{◌∙◌, sym}
use Rattle.aw_sched.proofs.ByteFronts.{number_says}
use Rattle.aw_sched.proofs.front.number_front.Goals as goal

pub returns-in_ok-number_value : goal.returns-in_ok-number_value
returns-in_ok-number_value c =
    let word = c.split_at.result.0.now in
    let rest = c.split_at.result.1.now in
    let found = c.in_ok-number_value in
    number_says c.args.bytes.now word rest found.field-0 c.split_at.ensures.by_index.0 (sym c.number_value.ensures ∙ found.was) (c.is_at_end.ensures c.if-is_at_end.true)
