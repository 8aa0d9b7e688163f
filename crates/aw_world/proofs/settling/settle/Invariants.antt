use Rattle.std.proofs.Common.{◌≡◌, ◌≤◌, ◌-◌, map}
use Rattle.aw_choice.specs.ChoiceView.{choice_of}
use Rattle.aw_grammar.specs.GrammarOf.{grammar_of}
use Rattle.aw_law_sites.specs.Worlds as V
use Rattle.aw_law_sites.specs.Worlds.{count_set}
use Rattle.aw_law_sites.specs.Bounds.{bound_of}
use Rattle.aw_world.specs.Shown.{Shows}
use Rattle.aw_world.proofs.settling.settle.Given as goal

-- what was delivered since is as many steps of settling
abbrev pub invariant-loop-number : goal.invariant-loop-number
invariant-loop-number g l = record {
  accepted : l.world.accepted.now ≡ l.initial.world.accepted.now;
  loads : l.world.loads ≡ l.initial.world.loads;
  counts : count_set l.initial.world.marks.delivered.items ≤ count_set l.world.marks.delivered.items;
  settled : (v : V.World) → Shows g.W.Workspace l.initial.world v →
      Shows g.W.Workspace l.world (V.settle (count_set l.world.marks.delivered.items - count_set l.initial.world.marks.delivered.items) (grammar_of l.initial.world.accepted.now.grammar) v);
}

-- the deliveries that are left come down
abbrev pub decreases-loop-number : goal.decreases-loop-number
decreases-loop-number g l = bound_of (grammar_of l.world.accepted.now.grammar) (map choice_of l.world.taken.items) - count_set l.world.marks.delivered.items
