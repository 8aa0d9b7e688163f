use Rattle.std.proofs.Common.{sym, ◌∙◌}
use Rattle.std.proofs.lemmas.Bool.{eqb-true}
use Rattle.std.proofs.lemmas.List.{length-map}
use Rattle.aw_plain_rows.specs.TreeView.{value_of, values_of}
use Rattle.aw_plain_rows.specs.RowView.{config_of}
use Rattle.aw_plain.proofs.TouchLemmas.{untouched_by_none, untouched_cases}
use Rattle.aw_plain.proofs.touch.touched.Goals as goal

pub returns-then-is_empty-clause-outside : goal.returns-then-is_empty-clause-outside
returns-then-is_empty-clause-outside c s =
    let nothing = eqb-true _ _ (sym c.is_empty.ensures ∙ c.if-is_empty.true) in
    untouched_by_none c.args.node.now c.rows_of_node.result.start c.rows_of_node.result.end (config_of c.args.rows.now) s (values_of c.args.results.now)
    (length-map c.args.results.now value_of ∙ nothing) c.rows_of_node.ensures.outside

pub returns-else-is_empty-clause-outside : goal.returns-else-is_empty-clause-outside
returns-else-is_empty-clause-outside c s =
    untouched_cases c.args.node.now c.rows_of_case.result.start c.rows_of_case.result.end (config_of c.args.rows.now) s (values_of c.args.results.now)
    c.requires.apart c.rows_of_case.ensures.outside
