use Rattle.std.proofs.Common.{◌≡◌, ◌≤◌, ◌-◌, map}
use Rattle.std.specs.declared.result.Result.{Result}
use Rattle.aw_choice.specs.ChoiceView.{choice_of}
use Rattle.aw_grammar.specs.GrammarOf.{grammar_of, words_of}
use Rattle.aw_out.specs.declared.error.PrintFault.{PrintFault}
use Rattle.aw_out.specs.Report.{Bounded, Prints}
use Rattle.aw_law_sites.specs.Worlds as V
use Rattle.aw_law_sites.specs.Transcripts.{settle_lines}
use Rattle.aw_law_sites.specs.Worlds.{count_set}
use Rattle.aw_law_sites.specs.Bounds.{bound_of}
use Rattle.aw_world.specs.Shown.{Shows}
use Rattle.aw_replay.proofs.settling.print_settling.Given as goal

-- what was delivered since is as many steps of settling, and whatever prints the lines of the others has printed all
abbrev pub invariant-loop-number : goal.invariant-loop-number
invariant-loop-number g l = record {
  accepted : l.world.accepted.now ≡ l.initial.world.accepted.now;
  loads : l.world.loads ≡ l.initial.world.loads;
  named : l.names.grammar.now ≡ l.initial.names.grammar.now;
  counts : count_set l.initial.world.marks.delivered.items ≤ count_set l.world.marks.delivered.items;
  settled : (v : V.World) → Shows g.W.Workspace l.initial.world v →
      Shows g.W.Workspace l.world (V.settle (count_set l.world.marks.delivered.items - count_set l.initial.world.marks.delivered.items) (grammar_of l.initial.world.accepted.now.grammar) v);
  whole : (v : V.World) → Shows g.W.Workspace l.initial.world v → (new : Bounded) (result : Result Unit PrintFault) →
      Prints (settle_lines (bound_of (grammar_of l.initial.world.accepted.now.grammar) v.taken - (count_set l.world.marks.delivered.items - count_set l.initial.world.marks.delivered.items))
      (count_set l.world.marks.delivered.items - count_set l.initial.world.marks.delivered.items)
      (words_of l.initial.world.accepted.now.grammar) (grammar_of l.initial.world.accepted.now.grammar)
      (V.settle (count_set l.world.marks.delivered.items - count_set l.initial.world.marks.delivered.items) (grammar_of l.initial.world.accepted.now.grammar) v)) l.report new result →
      Prints (settle_lines (bound_of (grammar_of l.initial.world.accepted.now.grammar) v.taken) 0 (words_of l.initial.world.accepted.now.grammar)
      (grammar_of l.initial.world.accepted.now.grammar) v) l.initial.report new result;
}

abbrev pub decreases-loop-number : goal.decreases-loop-number
decreases-loop-number g l = bound_of (grammar_of l.world.accepted.now.grammar) (map choice_of l.world.taken.items) - count_set l.world.marks.delivered.items
