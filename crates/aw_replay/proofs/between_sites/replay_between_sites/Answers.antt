use Rattle.std.proofs.Common.{map, sym, subst}
use Rattle.aw_accept.specs.declared.accepted.Accepted.{Accepted}
use Rattle.aw_grammar.specs.GrammarOf.{grammar_of}
use Rattle.aw_sched.specs.Answers.{event_seen, MayCome}
use Rattle.aw_term.specs.WellFormed.{Each}
use Rattle.aw_replay.proofs.Events.{all_may_stand}
use Rattle.aw_replay.proofs.Replays.{replay_headline, settling_ends}
use Rattle.aw_replay.proofs.between_sites.replay_between_sites.Goals as goal

pub returns-in_err-world-clause-settles : goal.returns-in_err-world-clause-settles
returns-in_err-world-clause-settles c =
    let a = c.args.accepted.now in
    settling_ends a c.args.loads (map event_seen c.args.events.now) (all_may_stand (grammar_of a.grammar) c.args.events.now c.requires)

pub returns-in_err-world-clause-headline : goal.returns-in_err-world-clause-headline
returns-in_err-world-clause-headline c =
    let a = c.args.accepted.now in
    replay_headline a c.args.loads (map event_seen c.args.events.now) (all_may_stand (grammar_of a.grammar) c.args.events.now c.requires)

pub replay-told-requires-clause-may_come : goal.replay-told-requires-clause-may_come
replay-told-requires-clause-may_come c = subst (λ (a : Accepted). Each (MayCome (grammar_of a.grammar)) c.args.events.now) (sym c.in_ok-world.ensures.accepted) c.requires
