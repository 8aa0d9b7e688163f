use Rattle.std.proofs.Common.{◌≡◌, ◌+◌, ◌++◌, map, drop}
use Rattle.aw_term.specs.Configs.{child_holes, env as plain_env}
use Rattle.aw_term.specs.Views.{ground_of}
use Rattle.aw_grammar.specs.GrammarView.{child_of, rule_of}
use Rattle.aw_plain_rows.specs.TreeView.{values_of}
use Rattle.aw_plain.proofs.child.bindings.Given as goal

abbrev pub invariant-loop-i : goal.invariant-loop-i
invariant-loop-i l = values_of l.env.items ++ child_holes l.node l.number (l.i + 1) (map (child_of l.grammar.sorts) (drop l.i l.children)) ≡ plain_env
    l.node l.number (rule_of l.grammar.sorts l.rule) (values_of l.fn.bound) (map ground_of l.args)
