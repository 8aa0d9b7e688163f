use Rattle.std.proofs.Common.{map}
use Rattle.aw_grammar.specs.GrammarOf.{grammar_of}
use Rattle.aw_sched.specs.Answers.{event_seen}
use Rattle.aw_replay.proofs.Events.{all_may_stand}
use Rattle.aw_replay.proofs.Replays.{replay_headline, settling_ends}
use Rattle.aw_replay.proofs.replaying.replay.Goals as goal

pub returns-in_err-replay_into-clause-settles : goal.returns-in_err-replay_into-clause-settles
returns-in_err-replay_into-clause-settles g c =
    let w = c.args.world.now in
    settling_ends w.accepted.now w.loads (map event_seen c.args.events.now) (all_may_stand (grammar_of w.accepted.now.grammar) c.args.events.now c.requires.may_come)

pub returns-in_err-replay_into-clause-headline : goal.returns-in_err-replay_into-clause-headline
returns-in_err-replay_into-clause-headline g c =
    let w = c.args.world.now in
    replay_headline w.accepted.now w.loads (map event_seen c.args.events.now) (all_may_stand (grammar_of w.accepted.now.grammar) c.args.events.now c.requires.may_come)

pub returns-clause-settles : goal.returns-clause-settles
returns-clause-settles g c =
    let w = c.args.world.now in
    settling_ends w.accepted.now w.loads (map event_seen c.args.events.now) (all_may_stand (grammar_of w.accepted.now.grammar) c.args.events.now c.requires.may_come)

pub returns-clause-headline : goal.returns-clause-headline
returns-clause-headline g c =
    let w = c.args.world.now in
    replay_headline w.accepted.now w.loads (map event_seen c.args.events.now) (all_may_stand (grammar_of w.accepted.now.grammar) c.args.events.now c.requires.may_come)
