use Rattle.std.proofs.Common.{sym, subst}
use Rattle.std.specs.Prelude.{OnOk, OnErr}
use Rattle.std.proofs.lemmas.Result.{on_err_weaker}
use Rattle.aw_law_sites.specs.Worlds as V
use Rattle.aw_sched.specs.Answers.{event_seen}
use Rattle.aw_replay.specs.Telling.{Does, PrintsEvent, DoesSome}
use Rattle.aw_replay.proofs.Arms.{some_step}
use Rattle.aw_replay.proofs.replaying.tell_event.Goals as goal

pub returns-in-Choose-clause-does : goal.returns-in-Choose-clause-does
returns-in-Choose-clause-does g c =
    subst (λ e. OnOk c.print_choice.result (Does g.W.Workspace c.args.world.now c.print_choice.new.world (event_seen e))) (sym c.in-Choose.is) c.print_choice.ensures.does

pub returns-in-Choose-clause-prints : goal.returns-in-Choose-clause-prints
returns-in-Choose-clause-prints g c =
    subst (λ e. PrintsEvent g.W.Workspace c.args.world.now (event_seen e) c.args.report.now c.print_choice.new.report c.print_choice.result) (sym c.in-Choose.is) c.print_choice.ensures.prints

pub returns-in-Choose-clause-some : goal.returns-in-Choose-clause-some
returns-in-Choose-clause-some g c =
    subst (λ e. OnErr c.print_choice.result (DoesSome g.W.Workspace c.args.world.now c.print_choice.new.world (event_seen e))) (sym c.in-Choose.is) c.print_choice.ensures.some

pub returns-in-Deliver-clause-does : goal.returns-in-Deliver-clause-does
returns-in-Deliver-clause-does g c =
    subst (λ e. OnOk c.print_delivery.result (Does g.W.Workspace c.args.world.now c.print_delivery.new.world (event_seen e))) (sym c.in-Deliver.is) c.print_delivery.ensures.stepped

pub returns-in-Deliver-clause-prints : goal.returns-in-Deliver-clause-prints
returns-in-Deliver-clause-prints g c =
    subst (λ e. PrintsEvent g.W.Workspace c.args.world.now (event_seen e) c.args.report.now c.print_delivery.new.report c.print_delivery.result) (sym c.in-Deliver.is) c.print_delivery.ensures.prints

pub returns-in-Deliver-clause-some : goal.returns-in-Deliver-clause-some
returns-in-Deliver-clause-some g c =
    subst (λ e. OnErr c.print_delivery.result (DoesSome g.W.Workspace c.args.world.now c.print_delivery.new.world (event_seen e)))
    (sym c.in-Deliver.is) (on_err_weaker c.print_delivery.result (λ some v s. some_step g.W.Workspace c.args.world.now c.print_delivery.new.world
    (V.Delivers c.in-Deliver.number) some v s) c.print_delivery.ensures.some)

pub returns-in-Settle-clause-does : goal.returns-in-Settle-clause-does
returns-in-Settle-clause-does g c =
    subst (λ e. OnOk c.print_settling.result (Does g.W.Workspace c.args.world.now c.print_settling.new.world (event_seen e))) (sym c.in-Settle.is) c.print_settling.ensures.does

pub returns-in-Settle-clause-prints : goal.returns-in-Settle-clause-prints
returns-in-Settle-clause-prints g c =
    subst (λ e. PrintsEvent g.W.Workspace c.args.world.now (event_seen e) c.args.report.now c.print_settling.new.report c.print_settling.result) (sym c.in-Settle.is) c.print_settling.ensures.prints

pub returns-in-Settle-clause-some : goal.returns-in-Settle-clause-some
returns-in-Settle-clause-some g c =
    subst (λ e. OnErr c.print_settling.result (DoesSome g.W.Workspace c.args.world.now c.print_settling.new.world (event_seen e))) (sym c.in-Settle.is) c.print_settling.ensures.some

pub returns-in-List-clause-prints : goal.returns-in-List-clause-prints
returns-in-List-clause-prints g c =
    subst (λ e. PrintsEvent g.W.Workspace c.args.world.now (event_seen e) c.args.report.now c.print_list.new.report c.print_list.result) (sym c.in-List.is) c.print_list.ensures.prints
