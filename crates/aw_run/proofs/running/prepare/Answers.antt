use Rattle.std.proofs.Common.{◌≡◌, ◌∙◌, sym, ap, subst, Some, []}
use Rattle.aw_run.specs.Words.{command_of}
use Rattle.aw_run.specs.declared.words.Command.TheVariants.{Reads, Tries, Serves, Keeps, Carries}
use Rattle.aw_run.proofs.Endings.{replies-read, replies-node, replies-kept, replies-carried, stops-served, stops-kept, stops-carried, for-any}
use Rattle.std.proofs.lemmas.Result.{IfOk-weaker}
use Rattle.aw_run.specs.Promises.{RepliesKeeping}
use Rattle.aw_run.specs.Replies.{ForInput, around, wired}
use Rattle.aw_run.specs.Statuses.{status_of_stop}
use Rattle.aw_run.proofs.running.prepare.Goals as goal

pub returns-in-Reads-clause-reply : goal.returns-in-Reads-clause-reply
returns-in-Reads-clause-reply g c =
    let spelled : command_of c.args.words.now ≡ Some (Reads c.in-Reads.job) = sym c.from_words.ensures ∙ c.in-Some.is ∙ ap Some c.in-Reads.is in
    replies-read c.reply_to_source.result _ c.args.words.now (around g.W.Wire g.D.Disk c.args.wire.now c.args.wire.now c.args.disk.now
    c.args.disk.now) c.in-Reads.job spelled c.reply_to_source.ensures.reply

pub returns-in-Reads-clause-promises : goal.returns-in-Reads-clause-promises
returns-in-Reads-clause-promises g c =
    let spelled : command_of c.args.words.now ≡ Some (Reads c.in-Reads.job) = sym c.from_words.ensures ∙ c.in-Some.is ∙ ap Some c.in-Reads.is in
    IfOk-weaker c.reply_to_source.result _ _
    (λ said holds job is.
    let same : c.in-Reads.job ≡ job = cc (spelled, is) in
    subst (λ j. ForInput (g.S.Source.left c.args.src.now) (λ input. RepliesKeeping j input said)) same holds)
    c.reply_to_source.ensures.promises

pub returns-in-Tries-clause-reply : goal.returns-in-Tries-clause-reply
returns-in-Tries-clause-reply g c =
    let spelled : command_of c.args.words.now ≡ Some (Tries c.in-Tries.number) = sym c.from_words.ensures ∙ c.in-Some.is ∙ ap Some c.in-Tries.is in
    IfOk-weaker c.tell_trial.result _ _ (λ said is. for-any (g.S.Source.left c.args.src.now) c.args.words.now
    (around g.W.Wire g.D.Disk c.args.wire.now c.args.wire.now c.args.disk.now c.args.disk.now) c.in-Tries.number [] said spelled is)
    c.tell_trial.ensures.reply

pub returns-in-Serves-clause-reply : goal.returns-in-Serves-clause-reply
returns-in-Serves-clause-reply g c =
    let spelled : command_of c.args.words.now ≡ Some (Serves c.in-Serves.sessions) = sym c.from_words.ensures ∙ c.in-Some.is ∙ ap Some c.in-Serves.is in
    replies-node c.serve_source.result _ c.args.words.now (around g.W.Wire g.D.Disk c.args.wire.now c.serve_source.new.wire c.args.disk.now
    c.args.disk.now) _ c.in-Serves.sessions c.role_word.ensures spelled c.serve_source.ensures.reply

pub returns-in-Serves-clause-unserved : goal.returns-in-Serves-clause-unserved
returns-in-Serves-clause-unserved g c = λ n is.
    let spelled : command_of c.args.words.now ≡ Some (Serves c.in-Serves.sessions) = sym c.from_words.ensures ∙ c.in-Some.is ∙ ap Some c.in-Serves.is in
    stops-served c.serve_source.result status_of_stop _ c.args.words.now (wired g.W.Wire c.args.wire.now c.serve_source.new.wire) _
    c.in-Serves.sessions n c.role_word.ensures spelled is c.serve_source.ensures.stopped

pub returns-in-Keeps-clause-reply : goal.returns-in-Keeps-clause-reply
returns-in-Keeps-clause-reply g c =
    let spelled : command_of c.args.words.now ≡ Some (Keeps c.in-Keeps.sessions) = sym c.from_words.ensures ∙ c.in-Some.is ∙ ap Some c.in-Keeps.is in
    replies-kept c.keep_source.result _ c.args.words.now (around g.W.Wire g.D.Disk c.args.wire.now c.keep_source.new.wire c.args.disk.now
    c.keep_source.new.disk) _ c.in-Keeps.sessions c.role_word-in-Keeps.ensures spelled c.keep_source.ensures.reply

pub returns-in-Keeps-clause-stopped : goal.returns-in-Keeps-clause-stopped
returns-in-Keeps-clause-stopped g c = λ n is.
    let spelled : command_of c.args.words.now ≡ Some (Keeps c.in-Keeps.sessions) = sym c.from_words.ensures ∙ c.in-Some.is ∙ ap Some c.in-Keeps.is in
    stops-kept c.keep_source.result status_of_stop _ c.args.words.now (around g.W.Wire g.D.Disk c.args.wire.now c.keep_source.new.wire c.args.disk.now
    c.keep_source.new.disk) _ c.in-Keeps.sessions n c.role_word-in-Keeps.ensures spelled is c.keep_source.ensures.stopped

pub returns-in-Carries-clause-reply : goal.returns-in-Carries-clause-reply
returns-in-Carries-clause-reply g c =
    let spelled : command_of c.args.words.now ≡ Some (Carries c.in-Carries.rounds) = sym c.from_words.ensures ∙ c.in-Some.is ∙ ap Some c.in-Carries.is in
    replies-carried c.carry_source.result _ c.args.words.now (around g.W.Wire g.D.Disk c.args.wire.now c.carry_source.new.wire c.args.disk.now
    c.args.disk.now) c.in-Carries.rounds spelled c.carry_source.ensures.reply

pub returns-in-Carries-clause-broken : goal.returns-in-Carries-clause-broken
returns-in-Carries-clause-broken g c = λ n is.
    let spelled : command_of c.args.words.now ≡ Some (Carries c.in-Carries.rounds) = sym c.from_words.ensures ∙ c.in-Some.is ∙ ap Some c.in-Carries.is in
    stops-carried c.carry_source.result status_of_stop _ c.args.words.now (wired g.W.Wire c.args.wire.now c.carry_source.new.wire) c.in-Carries.rounds n spelled is c.carry_source.ensures.stopped
