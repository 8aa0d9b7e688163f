use Rattle.std.proofs.Common.{inr}
use Rattle.std.proofs.lemmas.Result.{IfOk-weaker, IfErr-weaker}
use Rattle.aw_run.specs.Devices.{wired}
use Rattle.aw_run.proofs.FrontOutputs.{carries-opened, carries-refused}
use Rattle.aw_run.proofs.carrying.carry_input.Goals as goal

pub returns-in-Ready-clause-reply : goal.returns-in-Ready-clause-reply
returns-in-Ready-clause-reply g c =
    let (s, opens, ready) = rw c.in-Ready.is at c.in_ok-opened.ensures in
    IfOk-weaker c.carry_accepted-came.result _ _
    (λ said is. carries-opened c.args.rounds (wired g.W.Wire c.args.wire.now c.carry_accepted-came.new.wire) c.args.input.now s said opens (is s ready.declared))
    c.carry_accepted-came.ensures.reply

pub returns-in-Ready-clause-refused : goal.returns-in-Ready-clause-refused
returns-in-Ready-clause-refused g c = IfOk-weaker c.carry_accepted-came.result _ _ (λ said never refusal. absurd (never refusal)) c.carry_accepted-came.ensures.never_refused

pub returns-in-Ready-clause-stopped : goal.returns-in-Ready-clause-stopped
returns-in-Ready-clause-stopped g c =
    let (s, opens, ready) = rw c.in-Ready.is at c.in_ok-opened.ensures in
    IfErr-weaker c.carry_accepted-came.result _ _ (λ stop is. inr (s, opens, is s ready.declared)) c.carry_accepted-came.ensures.stopped

pub returns-in-Refused-clause-reply : goal.returns-in-Refused-clause-reply
returns-in-Refused-clause-reply g c =
    carries-refused c.args.rounds (wired g.W.Wire c.args.wire.now c.args.wire.now) c.args.input.now _ (rw c.in-Refused.is at c.in_ok-opened.ensures)
