use Rattle.std.proofs.Common.{◌∙◌, Err, ap, subst, sym}
use Rattle.std.proofs.lemmas.Result.{err_from_is_err_and}
use Rattle.aw_accept.specs.declared.accepted.Accepted.{Accepted}
use Rattle.aw_grammar.specs.GrammarOf.{grammar_of}
use Rattle.aw_replay.specs.Replays.{MayReplay}
use Rattle.aw_replay.specs.declared.scheduled.Kept.TheVariants.{All}
use Rattle.aw_replay.proofs.WhileRead.{told_in}
use Rattle.aw_run.specs.Scheduled.{TellsLeft}
use Rattle.aw_run.specs.declared.words.Telling.TheVariants.{Replayed}
use Rattle.aw_run.proofs.Scheduled.{all_may_replay, tells_replayed}
use Rattle.aw_run.proofs.schedule.replay_left.Goals as goal

pub replay_schedule-told-requires-clause-may : goal.replay_schedule-told-requires-clause-may
replay_schedule-told-requires-clause-may c =
    subst (λ (a : Accepted). MayReplay All (grammar_of c.args.reader.now.grammar.now) (grammar_of a.grammar)) (sym c.in_ok-world.ensures.accepted)
    (all_may_replay c.args.accepted.now c.args.reader.now c.requires.same)

pub returns : goal.returns
returns c =
    tells_replayed c.args.accepted.now c.args.loads c.args.reader.now c.replay_schedule-told.result
    (told_in _ All c.args.reader.now c.in_ok-world.world c.replay_schedule-told.new.world c.replay_schedule-told.result c.args.accepted.now
    c.args.loads c.in_ok-world.ensures.accepted c.in_ok-world.ensures.loads
    c.replay_schedule-told.ensures.replays)

pub returns-in_err-world : goal.returns-in_err-world
returns-in_err-world c =
    let p = err_from_is_err_and c.from_residual.result c.from_residual.ensures.1 in
    subst (TellsLeft Replayed c.args.accepted.now c.args.loads c.args.reader.now) (sym (p.1 ∙ ap Err p.2)) tt
