use Rattle.std.proofs.Common.{◌∙◌, ap, Err, refl}
use Rattle.aw_run.specs.Devices.{around}
use Rattle.aw_run.proofs.Unreads.{unread-keeping, unread-stops}
use Rattle.aw_run.proofs.keeping.keep_source.Goals as goal

pub returns-in-Err-clause-reply : goal.returns-in-Err-clause-reply
returns-in-Err-clause-reply g c =
    unread-keeping c.in-Err.error c.unread.result _ _ c.args.name.now c.args.sessions (around g.W.Wire g.D.Disk c.args.wire.now c.args.wire.now
    c.args.disk.now c.args.disk.now) c.unread.ensures (λ past. c.read_all.ensures.too_long (c.in-Err.is ∙ ap Err past))

pub returns-in-Err-clause-stopped : goal.returns-in-Err-clause-stopped
returns-in-Err-clause-stopped g c =
    unread-stops c.in-Err.error c.unread.result _ c.args.name.now c.args.sessions (around g.W.Wire g.D.Disk c.args.wire.now c.args.wire.now c.args.disk.now c.args.disk.now) refl refl c.unread.ensures
