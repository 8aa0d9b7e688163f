use Rattle.std.proofs.Common.{◌∙◌, sym}
use Rattle.aw_sched.proofs.ByteFronts.{blank_passed}
use Rattle.aw_sched.proofs.front.behind_blanks.Goals as goal

pub loop-rest-preserved : goal.loop-rest-preserved
loop-rest-preserved c =
    blank_passed c.args.bytes.now c.loop-rest.rest.now _ c.loop-rest.invariant c.in-len1-up.len_at_least (sym c.is_blank.ensures ∙ c.if-is_blank.true)
