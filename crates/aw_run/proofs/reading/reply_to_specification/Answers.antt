use Rattle.std.proofs.Common.{refl}
use Rattle.aw_lex.specs.Lines.{lines_of}
use Rattle.aw_grammar.specs.GrammarOf.{words_of}
use Rattle.aw_spec.specs.Views.{spec_seen}
use Rattle.aw_run.specs.Output.{MakesTyped}
use Rattle.aw_front.proofs.Verdicts.{refuses-types, types-hold}
use Rattle.aw_run.proofs.Promising.{refused-types}
use Rattle.aw_run.proofs.reading.reply_to_specification.Goals as goal

pub returns-in-Ok-clause-reply : goal.returns-in-Ok-clause-reply
returns-in-Ok-clause-reply c =
    let s = spec_seen c.args.spec in
    types-hold c.reply_to_typed-reply.result s c.args.spec.grammar (MakesTyped c.args.job s c.args.spec.lines c.args.spec.loads
    (lines_of c.args.schedule.now)) refl c.in-Ok.ensures.none c.reply_to_typed-reply.ensures.reply

pub returns-in-Err-clause-reply : goal.returns-in-Err-clause-reply
returns-in-Err-clause-reply c =
    let s = spec_seen c.args.spec in
    refuses-types c.bad_types-reply.result c.in-Err.fault s c.args.spec.grammar (MakesTyped c.args.job s c.args.spec.lines c.args.spec.loads
    (lines_of c.args.schedule.now)) refl c.in-Err.ensures.fault c.bad_types-reply.ensures

pub returns-in-Err-clause-promises : goal.returns-in-Err-clause-promises
returns-in-Err-clause-promises c = refused-types c.bad_types-reply.result (words_of c.args.spec.grammar) c.in-Err.fault _ c.bad_types-reply.ensures
