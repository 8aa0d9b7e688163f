use Rattle.std.proofs.Common.{rules, ◌≡◌, Err, sym, subst}
use Rattle.aw_replay.specs.Telling.{EndsReport, PrintsEnding}
use Rattle.aw_replay.proofs.stepwise.print_ended.Goals as goal

pub returns-in_err-print_ending : goal.returns-in_err-print_ending
returns-in_err-print_ending g c =
    let f = g.W.Workspace in
    let w = c.args.world.now in
    let fault = c.in_err-print_ending.field-0.0 in
    let same : c.from_residual.result ≡ Err fault = search rules in
    subst (EndsReport f w c.args.report) (sym same) (c.print_ending.new.report, subst (PrintsEnding f w c.args.report c.print_ending.new.report) c.in_err-print_ending.was c.print_ending.ensures)
