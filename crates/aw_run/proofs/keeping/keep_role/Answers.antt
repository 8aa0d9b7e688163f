use Rattle.std.proofs.Common.{◌∙◌, sym, ap, rules}
use Rattle.aw_kept_node.proofs.CutOffs.{err-passed}
use Rattle.aw_run.specs.Devices.{around}
use Rattle.aw_run.specs.Serving.{session_lines}
use Rattle.aw_run.specs.declared.reply.Stop.TheVariants as stop
use Rattle.aw_run.proofs.ServedOutputs.{disk-rose, ends-by, keeps-role, lines-lost, net-rose, stops-role}
use Rattle.aw_run.proofs.keeping.keep_role.Goals as goal

pub returns-in_ok-session_lines-in-Ok-clause-reply : goal.returns-in_ok-session_lines-in-Ok-clause-reply
returns-in_ok-session_lines-in-Ok-clause-reply g c = λ s same typed spells.
    keeps-role (around g.W.Wire g.D.Disk c.args.wire.now c.serve_kept.new.wire c.args.disk.now c.serve_kept.new.disk) s c.args.accepted.now.grammar
    c.args.typed.now c.args.role c.args.sessions c.args.text.now c.in-Ok.log _ same typed spells
    c.in-Ok.ensures.served c.in-Ok.ensures.most c.in-Ok.ensures.all (c.in_ok-session_lines-in-Ok.ensures ∙ ap (session_lines 1) c.as_slice.ensures)

pub returns-in_err-session_lines-in-Ok-clause-stopped : goal.returns-in_err-session_lines-in-Ok-clause-stopped
returns-in_err-session_lines-in-Ok-clause-stopped g c =
    err-passed _ c.from_residual.result stop.NoMemory (search rules)
    (λ s same typed spells.
    lines-lost (around g.W.Wire g.D.Disk c.args.wire.now c.serve_kept.new.wire c.args.disk.now c.serve_kept.new.disk) s c.args.accepted.now.grammar
    c.args.typed.now c.args.role c.args.sessions c.args.text.now c.in-Ok.log same typed spells
    c.in-Ok.ensures.served c.in-Ok.ensures.most c.in-Ok.ensures.all)

pub returns-in-Err-clause-stopped : goal.returns-in-Err-clause-stopped
returns-in-Err-clause-stopped g c = λ s same typed spells.
    let x = around g.W.Wire g.D.Disk c.args.wire.now c.serve_kept.new.wire c.args.disk.now c.serve_kept.new.disk in
    stops-role s c.args.role c.args.sessions x c.in-Err.fault c.from.result c.from.ensures (ends-by x s c.args.accepted.now.grammar c.args.typed.now
    c.args.role c.args.text.now c.in-Err.fault same typed spells c.in-Err.ensures.stopped)

pub returns-in-Err-clause-net_cause : goal.returns-in-Err-clause-net_cause
returns-in-Err-clause-net_cause g c = λ is.
    net-rose g.W.Wire g.D.Disk _ _ _ _ c.args.wire.now c.serve_kept.new.wire c.args.disk.now c.serve_kept.new.disk c.in-Err.fault c.in-Err.ensures.stopped (sym c.from.ensures ∙ search (rules, is))

pub returns-in-Err-clause-disk_cause : goal.returns-in-Err-clause-disk_cause
returns-in-Err-clause-disk_cause g c = λ is.
    disk-rose g.W.Wire g.D.Disk _ _ _ _ c.args.wire.now c.serve_kept.new.wire c.args.disk.now c.serve_kept.new.disk c.in-Err.fault c.in-Err.ensures.stopped (sym c.from.ensures ∙ search (rules, is))
