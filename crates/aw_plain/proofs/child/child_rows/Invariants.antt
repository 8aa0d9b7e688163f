use Rattle.std.proofs.Common.{◌≡◌, ◌+◌, ◌++◌, map, drop}
use Rattle.aw_term.specs.Configs.{child_rows as plain_child_rows}
use Rattle.aw_grammar.specs.GrammarView.{child_of, rule_of}
use Rattle.aw_plain_rows.specs.TreeView.{values_of}
use Rattle.aw_plain_rows.specs.RowView.{config_of}
use Rattle.aw_plain.proofs.child.child_rows.Given as goal

abbrev pub invariant-loop-i : goal.invariant-loop-i
invariant-loop-i l = config_of l.rows.items ++ plain_child_rows l.node l.number (values_of l.env) (l.i + 1)
    (map (child_of l.grammar.sorts) (drop l.i l.children)) ≡ plain_child_rows l.node l.number (values_of l.env) 1 (rule_of l.grammar.sorts l.rule).children
