use Rattle.std.proofs.Common.{◌∙◌, refl, sym}
use Rattle.std.proofs.lemmas.Result.{IfOk-weaker}
use Rattle.aw_lex.specs.Lines.{lines_of}
use Rattle.aw_spec.specs.Views.{spec_seen}
use Rattle.aw_front.proofs.Verdicts.{accepts-grammar, refuses-grammar}
use Rattle.aw_run.proofs.Verdicts.{told-schedule}
use Rattle.aw_run.proofs.Promising.{refused-grammar}
use Rattle.aw_run.proofs.schedule.tell_schedule.Goals as goal

pub returns-in-Ok-clause-reply : goal.returns-in-Ok-clause-reply
returns-in-Ok-clause-reply c =
    let s = spec_seen c.args.spec in
    let alone = c.grammar_alone.ensures in
    accepts-grammar _ s c.args.spec.grammar _ refl (rw alone at c.in-Ok.ensures.sound)
    (told-schedule _ c.args.telling s c.args.spec.lines c.args.spec.loads (lines_of c.args.schedule.now)
    (IfOk-weaker c.reply_to_schedule-reply.result _ _ (λ said is. is s refl (sym c.requires.types)) (rw (c.in-Ok.ensures.accepted ∙ alone) at c.reply_to_schedule-reply.ensures.reply)))

pub returns-in-Err-clause-reply : goal.returns-in-Err-clause-reply
returns-in-Err-clause-reply c = refuses-grammar _ c.in-Err.refused (spec_seen c.args.spec) c.args.spec.grammar _ refl (rw c.grammar_alone.ensures at c.in-Err.ensures.circular) c.not_accepted.ensures

pub returns-in-Ok-clause-promises : goal.returns-in-Ok-clause-promises
returns-in-Ok-clause-promises c =
    IfOk-weaker c.reply_to_schedule-reply.result _ _ (λ said holds done. holds (spec_seen c.args.spec) refl (sym c.requires.types))
    (rw (c.in-Ok.ensures.accepted ∙ c.grammar_alone.ensures) at c.reply_to_schedule-reply.ensures.promises)

pub returns-in-Err-clause-promises : goal.returns-in-Err-clause-promises
returns-in-Err-clause-promises c = refused-grammar _ c.in-Err.refused _ c.not_accepted.ensures
