use Rattle.std.proofs.Common.{◌≡◌, map, take}
use Rattle.aw_term.specs.Configs.{fill as plain_fill}
use Rattle.aw_term.specs.Views.{term_of}
use Rattle.aw_plain_rows.specs.TreeView.{values_of}
use Rattle.aw_plain.proofs.fill.+fill.Given as goal

abbrev pub invariant-fill_all-loop-expr : goal.invariant-fill_all-loop-expr
invariant-fill_all-loop-expr l = values_of l.trees.items ≡ map (plain_fill (values_of l.env)) (map term_of (take l.expr-index l.exprs))
