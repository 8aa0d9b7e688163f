use Rattle.std.proofs.Common.{◌≡◌, ◌+◌, ◌*◌, ◌≤◌, drop, map}
use Rattle.aw_term.specs.WellFormed.{outs_of}
use Rattle.aw_grammar.specs.GrammarView.{child_of}
use Rattle.aw_spec_writer.proofs.rules.outs_of.Given as goal

abbrev pub invariant-loop-child : goal.invariant-loop-child
invariant-loop-child l = record {
  value : l.outs + outs_of (map (child_of l.g.sorts) (drop l.child-index l.children)) ≡ outs_of (map (child_of l.g.sorts) l.children);
  few : l.outs ≤ 255 * l.child-index;
}
