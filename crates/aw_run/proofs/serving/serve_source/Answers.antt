use Rattle.std.proofs.Common.{◌∙◌, ap, Err, refl}
use Rattle.aw_run.specs.Devices.{wired}
use Rattle.aw_run.proofs.Unreads.{unread-served, unread-unserved}
use Rattle.aw_run.proofs.serving.serve_source.Goals as goal

pub returns-in-Err-clause-reply : goal.returns-in-Err-clause-reply
returns-in-Err-clause-reply g c =
    unread-served c.in-Err.error c.unread.result _ _ c.args.name.now c.args.sessions _ c.unread.ensures (λ past. c.read_all.ensures.too_long (c.in-Err.is ∙ ap Err past))

pub returns-in-Err-clause-stopped : goal.returns-in-Err-clause-stopped
returns-in-Err-clause-stopped g c =
    unread-unserved c.in-Err.error c.unread.result _ c.args.name.now c.args.sessions (wired g.W.Wire c.args.wire.now c.args.wire.now) refl c.unread.ensures
