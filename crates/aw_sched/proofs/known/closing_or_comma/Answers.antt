use Rattle.std.proofs.Common.{rules, ◌≡◌, refl, get_or}
use Rattle.aw_sched.proofs.ByteFronts.{mark_passed}
use Rattle.aw_sched.proofs.known.closing_or_comma.Goals as goal

pub returns-in-44-clause-goes_on : goal.returns-in-44-clause-goes_on
returns-in-44-clause-goes_on c _ =
    let bytes = c.behind_blanks.result.now in
    let comma : get_or bytes 0 0 ≡ 44 = search rules in
    mark_passed c.args.line.now bytes 0 44 c.behind_blanks.ensures c.in-44.len_at_least comma (refl, refl)

pub returns-in-len1-up-clause-closed : goal.returns-in-len1-up-clause-closed
returns-in-len1-up-clause-closed c _ =
    let bytes = c.behind_blanks.result.now in
    mark_passed c.args.line.now bytes 0 c.args.close c.behind_blanks.ensures c.in-len1-up.len_at_least c.if-mark-close.true c.requires
