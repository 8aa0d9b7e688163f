use Rattle.std.proofs.Common.{◌≡◌, ◌+◌, ◌++◌, map, drop}
use Rattle.aw_grammar.specs.GrammarView.{child_of}
use Rattle.aw_apply.specs.Made.{child_refs}
use Rattle.aw_apply.proofs.children.push_children_results.Given as goal

abbrev pub invariant-loop-i : goal.invariant-loop-i
invariant-loop-i l = l.refs.items ++ child_refs l.node l.rule (l.i + 1) (map (child_of l.g.sorts) (drop l.i l.children)) ≡ l.fn.refs.items ++
    child_refs l.node l.rule 1 (map (child_of l.g.sorts) l.children)
