use Rattle.std.proofs.Common.{◌≡◌, map, take, drop}
use Rattle.std.specs.declared.result.Result.{Result}
use Rattle.aw_grammar.specs.GrammarOf.{grammar_of, words_of}
use Rattle.aw_out.specs.declared.error.PrintFault.{PrintFault}
use Rattle.aw_out.specs.Report.{Bounded, Prints}
use Rattle.aw_law_sites.specs.Worlds as V
use Rattle.aw_sched.specs.Answers.{event_seen}
use Rattle.aw_world.specs.Shown.{Shows}
use Rattle.aw_law_sites.specs.Outputs.{after_events, all_lines}
use Rattle.aw_replay.proofs.replaying.tell_events.Given as goal

-- the world is that after the events so far, and whatever prints what is left from here on has printed the whole
abbrev pub invariant-loop-event : goal.invariant-loop-event
invariant-loop-event g l = record {
  accepted : l.world.accepted.now ≡ l.initial.world.accepted.now;
  loads : l.world.loads ≡ l.initial.world.loads;
  named : l.names.grammar.now ≡ l.initial.world.accepted.now.grammar;
  after : (v : V.World) → Shows g.W.Workspace l.initial.world v →
      Shows g.W.Workspace l.world (after_events (grammar_of l.initial.world.accepted.now.grammar) v (map event_seen (take l.event-index l.events)));
  whole : (v : V.World) → Shows g.W.Workspace l.initial.world v → (new : Bounded) (result : Result Unit PrintFault) →
      Prints (all_lines (words_of l.initial.world.accepted.now.grammar) (grammar_of l.initial.world.accepted.now.grammar)
      (after_events (grammar_of l.initial.world.accepted.now.grammar) v (map event_seen (take l.event-index l.events)))
      (map event_seen (drop l.event-index l.events))) l.report new result →
      Prints (all_lines (words_of l.initial.world.accepted.now.grammar) (grammar_of l.initial.world.accepted.now.grammar) v (map event_seen l.events)) l.initial.report new result;
}
