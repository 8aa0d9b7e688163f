use Rattle.std.proofs.Common.{◌∙◌, false, Err, ap, subst, sym}
use Rattle.std.proofs.lemmas.Result.{err_from_is_err_and}
use Rattle.aw_accept.specs.declared.accepted.Accepted.{Accepted}
use Rattle.aw_grammar.specs.GrammarOf.{grammar_of}
use Rattle.aw_replay.specs.Replays.{MayReplay}
use Rattle.aw_replay.specs.Scheduled.{RunsUndivided}
use Rattle.aw_replay.specs.declared.scheduled.Kept.TheVariants.{Choices}
use Rattle.aw_replay.proofs.ScheduledRuns.{may_replay, runs}
use Rattle.aw_replay.proofs.WhileRead.{told_in}
use Rattle.aw_replay.proofs.running.run_schedule.Goals as goal

pub replay_schedule-told-requires-clause-may : goal.replay_schedule-told-requires-clause-may
replay_schedule-told-requires-clause-may c =
    subst (λ (a : Accepted). MayReplay Choices (grammar_of c.args.reader.now.grammar.now) (grammar_of a.grammar)) (sym c.in_ok-world.ensures.accepted)
    (may_replay c.args.accepted.now c.in_ok-one.one c.args.reader.now.grammar.now c.requires.same c.in_ok-one.ensures.grammar (c.united_laws.ensures.choices (grammar_of c.args.accepted.now.grammar)))

pub returns : goal.returns
returns c =
    runs c.args.accepted.now c.in_ok-one.one c.in_ok-one.ensures.words c.in_ok-one.ensures.grammar c.undivided_laws.ensures c.args.reader.now c.requires.same c.replay_schedule-told.result
    (told_in _ Choices c.args.reader.now c.in_ok-world.world c.replay_schedule-told.new.world c.replay_schedule-told.result c.in_ok-one.one false
    c.in_ok-world.ensures.accepted c.in_ok-world.ensures.loads
    c.replay_schedule-told.ensures.replays)

pub returns-in_err-world : goal.returns-in_err-world
returns-in_err-world c =
    let p = err_from_is_err_and c.from_residual-in_err-world.result c.from_residual-in_err-world.ensures.1 in
    subst (RunsUndivided c.args.accepted.now c.args.reader.now) (sym (p.1 ∙ ap Err p.2)) tt
