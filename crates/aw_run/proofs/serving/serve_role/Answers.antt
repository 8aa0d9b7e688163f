use Rattle.std.proofs.Common.{◌∙◌, ap, inl, rules}
use Rattle.aw_node.specs.declared.serving.ServeFault.TheVariants as fault
use Rattle.aw_kept_node.proofs.CutOffs.{err-passed}
use Rattle.aw_run.specs.Devices.{wired}
use Rattle.aw_run.specs.Serving.{session_lines}
use Rattle.aw_run.specs.declared.reply.Stop.TheVariants as stop
use Rattle.aw_run.proofs.ServedOutputs.{node-lines-lost, served-until, serves-role}
use Rattle.aw_run.proofs.serving.serve_role.Goals as goal

pub returns-in_ok-session_lines-in-Ok-clause-reply : goal.returns-in_ok-session_lines-in-Ok-clause-reply
returns-in_ok-session_lines-in-Ok-clause-reply g c = λ s same typed.
    serves-role (wired g.W.Wire c.args.wire.now c.serve.new.wire) s c.args.accepted.now.grammar c.args.typed.now c.args.role c.args.sessions c.in-Ok.log _ same typed
    c.in-Ok.ensures.served c.in-Ok.ensures.most c.in-Ok.ensures.all (c.in_ok-session_lines-in-Ok.ensures ∙ ap (session_lines 1) c.as_slice.ensures)

pub returns-in_err-session_lines-in-Ok-clause-stopped : goal.returns-in_err-session_lines-in-Ok-clause-stopped
returns-in_err-session_lines-in-Ok-clause-stopped g c =
    err-passed _ c.from_residual.result stop.NoMemory (search rules)
    (λ s same typed.
    node-lines-lost (wired g.W.Wire c.args.wire.now c.serve.new.wire) s c.args.accepted.now.grammar c.args.typed.now c.args.role c.args.sessions c.in-Ok.log same typed
    c.in-Ok.ensures.served c.in-Ok.ensures.most c.in-Ok.ensures.all)

pub returns-in-Err-NetFault-clause-stopped : goal.returns-in-Err-NetFault-clause-stopped
returns-in-Err-NetFault-clause-stopped g c = λ s same typed.
    served-until (wired g.W.Wire c.args.wire.now c.serve.new.wire) s c.args.accepted.now.grammar c.args.typed.now c.args.role fault.NetFault same typed
    (rw c.in-Err-NetFault.field-0-is at c.in-Err-NetFault.ensures.stopped)

pub returns-in-Err-NoMemory-clause-stopped : goal.returns-in-Err-NoMemory-clause-stopped
returns-in-Err-NoMemory-clause-stopped g c = λ s same typed.
    inl (served-until (wired g.W.Wire c.args.wire.now c.serve.new.wire) s c.args.accepted.now.grammar c.args.typed.now c.args.role fault.NoMemory same typed
    (rw c.in-Err-NoMemory.field-0-is at c.in-Err-NoMemory.ensures.stopped))
