use Rattle.std.proofs.Common.{arith, ◌≡◌, ◌∙◌, ◌≤◌, length, refl, sym, ap, subst, Err}
use Rattle.std.proofs.lemmas.Result.{IfOk-weaker}
use Rattle.aw_lex.specs.Lines.{lines_of}
use Rattle.aw_grammar.specs.GrammarOf.{declarations_of}
use Rattle.aw_out.specs.Report.{Bounded}
use Rattle.aw_replay.specs.Replays.{most}
use Rattle.aw_sched.specs.Readers.{left}
use Rattle.aw_sched.specs.Schedules.{FaultAt}
use Rattle.aw_typed.specs.Typing.{types_of}
use Rattle.aw_run.specs.Scheduled.{TellsLeft}
use Rattle.aw_run.proofs.LineCounts.{schedule-within}
use Rattle.aw_run.proofs.Scheduled.{past, promised, read_all, refused, refused_promised, replied}
use Rattle.aw_run.proofs.Verdicts.{bad-event}
use Rattle.aw_run.proofs.schedule.reply_to_schedule.Goals as goal

pub tell_left-requires-clause-same : goal.tell_left-requires-clause-same
tell_left-requires-clause-same c = c.new-reader.ensures.grammar ∙ c.grammar-g.ensures.value

pub returns-in-Ok-clause-reply : goal.returns-in-Ok-clause-reply
returns-in-Ok-clause-reply c =
    let a = c.args.accepted.now in
    let t = c.args.typed.now in
    let lines = lines_of c.args.schedule.now in
    let all = read_all c.new-reader.result (types_of t.types) _ a.grammar c.args.schedule.now c.new-reader.ensures.left c.grammar-g.ensures.value in
    let told = c.in-Ok.ensures in
    let within : length c.into_text.result ≤ most = subst (λ (r : Bounded). length c.into_text.result ≤ r.limit) told.2 c.into_text.ensures.within in
    replied c.args.telling a t c.args.before c.args.loads lines c.new-reader.result all told.0 told.1 c.into_text.result (c.into_text.ensures.text ∙ ap (λ (r : Bounded). r.text) told.2) within _ refl

pub returns-in-Ok-clause-promises : goal.returns-in-Ok-clause-promises
returns-in-Ok-clause-promises c =
    let a = c.args.accepted.now in
    let t = c.args.typed.now in
    let lines = lines_of c.args.schedule.now in
    let all = read_all c.new-reader.result (types_of t.types) _ a.grammar c.args.schedule.now c.new-reader.ensures.left c.grammar-g.ensures.value in
    promised c.args.telling a t c.args.before c.args.loads lines c.new-reader.result all c.requires.made (c.new-reader.ensures.grammar
    ∙ c.grammar-g.ensures.value) c.new-reader.ensures.typed c.in-Ok.ensures.0 c.in-Ok.ensures.1

pub returns-in-Err-TooLarge-clause-reply : goal.returns-in-Err-TooLarge-clause-reply
returns-in-Err-TooLarge-clause-reply c =
    let a = c.args.accepted.now in
    let t = c.args.typed.now in
    let lines = lines_of c.args.schedule.now in
    let all = read_all c.new-reader.result (types_of t.types) _ a.grammar c.args.schedule.now c.new-reader.ensures.left c.grammar-g.ensures.value in
    let told = subst (λ z. TellsLeft c.args.telling a c.args.loads c.new-reader.result (Err z)) c.in-Err-TooLarge.field-0-is c.in-Err-TooLarge.ensures in
    past c.args.telling a t c.args.before c.args.loads lines c.new-reader.result all told.0 told.1 told.2 _ c.silent.ensures

pub returns-in-Err-TooLarge-clause-promises : goal.returns-in-Err-TooLarge-clause-promises
returns-in-Err-TooLarge-clause-promises c =
    let a = c.args.accepted.now in
    let t = c.args.typed.now in
    let lines = lines_of c.args.schedule.now in
    let all = read_all c.new-reader.result (types_of t.types) _ a.grammar c.args.schedule.now c.new-reader.ensures.left c.grammar-g.ensures.value in
    let told = subst (λ z. TellsLeft c.args.telling a c.args.loads c.new-reader.result (Err z)) c.in-Err-TooLarge.field-0-is c.in-Err-TooLarge.ensures in
    promised c.args.telling a t c.args.before c.args.loads lines c.new-reader.result all c.requires.made (c.new-reader.ensures.grammar
    ∙ c.grammar-g.ensures.value) c.new-reader.ensures.typed told.0 told.1

pub overflow_add-before : goal.overflow_add-before
overflow_add-before c =
    let a = c.args.accepted.now in
    let t = c.args.typed.now in
    let lines = lines_of c.args.schedule.now in
    let all = read_all c.new-reader.result (types_of t.types) _ a.grammar c.args.schedule.now c.new-reader.ensures.left c.grammar-g.ensures.value in
    let faulty : left c.new-reader.result ≡ FaultAt c.in-Err-Bad.line c.in-Err-Bad.kind = rw c.in-Err-Bad.field-0-is at c.in-Err-Bad.ensures in
    omega (arith, c.requires.lines, schedule-within (types_of t.types) (declarations_of a.grammar) 1 c.in-Err-Bad.line c.in-Err-Bad.kind lines (sym all ∙ faulty))

pub returns-in-Err-Bad-clause-reply : goal.returns-in-Err-Bad-clause-reply
returns-in-Err-Bad-clause-reply c =
    let a = c.args.accepted.now in
    let t = c.args.typed.now in
    let lines = lines_of c.args.schedule.now in
    let all = read_all c.new-reader.result (types_of t.types) _ a.grammar c.args.schedule.now c.new-reader.ensures.left c.grammar-g.ensures.value in
    let faulty : left c.new-reader.result ≡ FaultAt c.in-Err-Bad.line c.in-Err-Bad.kind = rw c.in-Err-Bad.field-0-is at c.in-Err-Bad.ensures in
    IfOk-weaker c.bad_schedule.result _ _ (λ said w. refused c.args.telling a t c.args.before c.args.loads lines c.new-reader.result all c.in-Err-Bad.line c.in-Err-Bad.kind faulty said w)
    (bad-event c.bad_schedule.result c.in-Err-Bad.line _ c.args.before c.in-Err-Bad.kind _ c.in-Err-Bad.line-is c.in-Err-Bad.kind-is c.bad_schedule.ensures)

pub returns-in-Err-Bad-clause-promises : goal.returns-in-Err-Bad-clause-promises
returns-in-Err-Bad-clause-promises c =
    let a = c.args.accepted.now in
    let t = c.args.typed.now in
    let lines = lines_of c.args.schedule.now in
    let all = read_all c.new-reader.result (types_of t.types) _ a.grammar c.args.schedule.now c.new-reader.ensures.left c.grammar-g.ensures.value in
    let faulty : left c.new-reader.result ≡ FaultAt c.in-Err-Bad.line c.in-Err-Bad.kind = rw c.in-Err-Bad.field-0-is at c.in-Err-Bad.ensures in
    IfOk-weaker c.bad_schedule.result _ _ (λ said w. refused_promised c.args.telling a t c.args.before c.args.loads lines c.new-reader.result all
    c.in-Err-Bad.line c.in-Err-Bad.kind faulty) c.bad_schedule.ensures
