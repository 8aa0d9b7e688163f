use Rattle.std.proofs.Common.{◌∙◌, refl}
use Rattle.aw_standing.specs.Due.{waiting_mark}
use Rattle.aw_standing.proofs.Rising.{read_of_rule}
use Rattle.aw_standing.proofs.record.place_of.Goals as goal

pub returns-else-waits_so-clause-none : goal.returns-else-waits_so-clause-none
returns-else-waits_so-clause-none c rising j here =
    let (m, found, of_rule) = c.in_ok-at.ensures.found in
    let d = c.index-marks-at.result in
    c.waits_so.ensures.no c.if-waits_so.false
    (c.index-marks-at.is ∙ read_of_rule c.args.marks.now rising c.args.rule c.in_ok-at.at j d m (waiting_mark c.args.rule c.args.slot) found of_rule here refl)
