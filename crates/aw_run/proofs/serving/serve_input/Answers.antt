use Rattle.std.proofs.lemmas.Result.{IfOk-weaker, IfErr-weaker}
use Rattle.aw_run.specs.Devices.{wired}
use Rattle.aw_run.specs.Statuses.{status_of_stop}
use Rattle.aw_run.proofs.FrontOutputs.{serves-opened, serves-refused, stops-node}
use Rattle.aw_run.proofs.serving.serve_input.Goals as goal

pub returns-in-Ready-clause-reply : goal.returns-in-Ready-clause-reply
returns-in-Ready-clause-reply g c =
    let (s, opens, ready) = rw c.in-Ready.is at c.in_ok-opened.ensures in
    IfOk-weaker c.serve_named-came.result _ _
    (λ said is. serves-opened c.args.name.now c.args.sessions (wired g.W.Wire c.args.wire.now c.serve_named-came.new.wire) c.args.input.now s said opens (is s ready.declared ready.types))
    c.serve_named-came.ensures.reply

pub returns-in-Ready-clause-stopped : goal.returns-in-Ready-clause-stopped
returns-in-Ready-clause-stopped g c =
    let (s, opens, ready) = rw c.in-Ready.is at c.in_ok-opened.ensures in
    IfErr-weaker c.serve_named-came.result _ _
    (λ stop is. stops-node c.args.name.now c.args.sessions (wired g.W.Wire c.args.wire.now c.serve_named-came.new.wire) c.args.input.now s
    (status_of_stop stop) opens (is s ready.declared ready.types))
    c.serve_named-came.ensures.stopped

pub returns-in-Refused-clause-reply : goal.returns-in-Refused-clause-reply
returns-in-Refused-clause-reply g c =
    serves-refused c.args.name.now c.args.sessions (wired g.W.Wire c.args.wire.now c.args.wire.now) c.args.input.now _ (rw c.in-Refused.is at c.in_ok-opened.ensures)
