use Rattle.std.proofs.Common.{◌∙◌, ap, Err}
use Rattle.aw_run.proofs.TrialOutputs.{told-trial, past-trial}
use Rattle.aw_run.proofs.trials.summary_reply.Goals as goal

pub returns-in_ok-summary_text-in-Ok-clause-reply : goal.returns-in_ok-summary_text-in-Ok-clause-reply
returns-in_ok-summary_text-in-Ok-clause-reply c = told-trial c.args.number c.in-Ok.summary _ c.in-Ok.ensures.summary c.in-Ok.ensures.within c.in_ok-summary_text-in-Ok.ensures

pub returns-in-Err-TooLarge-clause-reply : goal.returns-in-Err-TooLarge-clause-reply
returns-in-Err-TooLarge-clause-reply c = c.silent.ensures ∙ past-trial c.args.number (c.trial.ensures.too_large (c.in-Err-TooLarge.is ∙ ap Err c.in-Err-TooLarge.field-0-is))
