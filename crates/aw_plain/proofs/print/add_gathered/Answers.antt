use Rattle.std.proofs.Common.{subst}
use Rattle.aw_out.specs.Report.{Prints}
use Rattle.aw_plain.proofs.PrintLemmas.{added}
use Rattle.aw_plain.proofs.print.add_gathered.Goals as goal

pub returns-clause-ok : goal.returns-clause-ok
returns-clause-ok c = λ more last r next.
    let pushed = subst (λ t. Prints t c.args.report.now c.push.new.self c.push.result) c.as_slice.ensures c.push.ensures.prints in
    added c.args.text.now more c.new.result c.args.report.now c.push.new.self last c.push.result r _ c.in_ok-push.was c.new.ensures pushed next
