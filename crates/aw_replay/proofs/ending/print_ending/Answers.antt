use Rattle.std.proofs.Common.{sym, ◌∙◌}
use Rattle.aw_replay.proofs.Endings.{ending_open, ending_quiet}
use Rattle.aw_replay.proofs.ending.print_ending.Goals as goal

pub returns-in-Some : goal.returns-in-Some
returns-in-Some g c =
    ending_open g.W.Workspace c.args.world.now c.args.report.now c.print_undelivered.new.report c.print_undelivered.result _ (sym c.quiet.ensures ∙ c.in-Some.is) c.print_undelivered.ensures

pub returns-in-None : goal.returns-in-None
returns-in-None g c =
    ending_quiet g.W.Workspace c.args.world.now c.args.report.now c.print_artifacts.new.report c.print_artifacts.result (sym c.quiet.ensures ∙ c.in-None.is) c.print_artifacts.ensures
