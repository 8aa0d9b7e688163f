use Rattle.std.proofs.Common.{◌∙◌, ap, Err, refl}
use Rattle.aw_run.specs.Devices.{wired}
use Rattle.aw_run.proofs.Unreads.{unread-carrying, unread-unwired}
use Rattle.aw_run.proofs.carrying.carry_source.Goals as goal

pub returns-in-Err-clause-reply : goal.returns-in-Err-clause-reply
returns-in-Err-clause-reply g c =
    unread-carrying c.in-Err.error c.unread.result _ _ c.args.rounds (wired g.W.Wire c.args.wire.now c.args.wire.now) c.unread.ensures (λ past. c.read_all.ensures.too_long (c.in-Err.is ∙ ap Err past))

pub returns-in-Err-clause-stopped : goal.returns-in-Err-clause-stopped
returns-in-Err-clause-stopped g c =
    unread-unwired c.in-Err.error c.unread.result _ c.args.rounds (wired g.W.Wire c.args.wire.now c.args.wire.now) refl c.unread.ensures
