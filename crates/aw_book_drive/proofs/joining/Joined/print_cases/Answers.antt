use Rattle.aw_book_drive.proofs.Settled.{prints-cases}
use Rattle.aw_book_drive.proofs.joining.Joined.print_cases.Goals as goal

pub returns : goal.returns
returns g c = λ v near.
    prints-cases g.W.Workspace c.args.self.now.driver.world c.settle.new.world v c.args.report.now c.print_rows.new.report c.print_rows.result c.in_ok-settle.ensures.accepted c.in_ok-settle.ensures.settled near
    (c.print_rows.ensures.quiet c.in_ok-settle.ensures.quiet)
