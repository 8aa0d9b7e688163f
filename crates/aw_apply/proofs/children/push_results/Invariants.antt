use Rattle.std.proofs.Common.{◌≡◌, ◌++◌, map}
use Rattle.aw_term.specs.Names.{result}
use Rattle.aw_term.specs.Rules.{upto}
use Rattle.aw_apply.proofs.children.push_results.Given as goal

abbrev pub invariant-loop-j : goal.invariant-loop-j
invariant-loop-j l = l.refs.items ≡ l.fn.refs.items ++ map (result l.node) (upto 1 l.j)
