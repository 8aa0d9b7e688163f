use Rattle.std.proofs.Common.{◌∙◌, ap, Err}
use Rattle.aw_run.proofs.Unreads.{unread-kept, unread-reply}
use Rattle.aw_run.proofs.reading.reply_to_source.Goals as goal

pub returns-in-Err-clause-reply : goal.returns-in-Err-clause-reply
returns-in-Err-clause-reply g c =
    unread-reply c.in-Err.error c.unread.result _ _ c.args.job c.unread.ensures (λ past. c.read_all.ensures.too_long (c.in-Err.is ∙ ap Err past))

pub returns-in-Err-clause-promises : goal.returns-in-Err-clause-promises
returns-in-Err-clause-promises g c =
    unread-kept c.in-Err.error c.unread.result _ _ c.args.job c.unread.ensures (λ past. c.read_all.ensures.too_long (c.in-Err.is ∙ ap Err past))
