use Rattle.std.proofs.Common.{◌∙◌, refl}
use Rattle.std.proofs.lemmas.Result.{IfOk-weaker, IfErr-weaker}
use Rattle.aw_run.specs.Devices.{around}
use Rattle.aw_run.specs.Statuses.{status_of_stop}
use Rattle.aw_run.proofs.FrontOutputs.{keeps-opened, keeps-refused, stops-opened}
use Rattle.aw_run.proofs.keeping.keep_input.Goals as goal

pub returns-in-Ready-clause-reply : goal.returns-in-Ready-clause-reply
returns-in-Ready-clause-reply g c =
    let (s, opens, ready) = rw c.in-Ready.is at c.in_ok-opened.ensures in
    IfOk-weaker c.keep_named-came.result _ _
    (λ said is. keeps-opened c.args.name.now c.args.sessions (around g.W.Wire g.D.Disk c.args.wire.now c.keep_named-came.new.wire c.args.disk.now
    c.keep_named-came.new.disk) c.args.input.now s said opens (is s ready.declared ready.types (c.as_slice.ensures ∙ ready.text refl)))
    c.keep_named-came.ensures.reply

pub returns-in-Ready-clause-stopped : goal.returns-in-Ready-clause-stopped
returns-in-Ready-clause-stopped g c =
    let (s, opens, ready) = rw c.in-Ready.is at c.in_ok-opened.ensures in
    IfErr-weaker c.keep_named-came.result _ _
    (λ stop is. stops-opened c.args.name.now c.args.sessions (around g.W.Wire g.D.Disk c.args.wire.now c.keep_named-came.new.wire c.args.disk.now
    c.keep_named-came.new.disk) c.args.input.now s (status_of_stop stop) opens (is s ready.declared ready.types (c.as_slice.ensures ∙ ready.text refl)))
    c.keep_named-came.ensures.stopped

pub returns-in-Refused-clause-reply : goal.returns-in-Refused-clause-reply
returns-in-Refused-clause-reply g c =
    keeps-refused c.args.name.now c.args.sessions (around g.W.Wire g.D.Disk c.args.wire.now c.args.wire.now c.args.disk.now c.args.disk.now)
    c.args.input.now _ (rw c.in-Refused.is at c.in_ok-opened.ensures)
