use Rattle.std.proofs.Common.{◌≡◌, map}
use Rattle.aw_term.specs.Names.{below}
use Rattle.aw_term.specs.Rules.{upto}
use Rattle.aw_apply.proofs.children.child_nodes.Given as goal

abbrev pub invariant-loop-i : goal.invariant-loop-i
invariant-loop-i l = l.nodes.items ≡ map (below l.node l.rule) (upto 1 l.i)
