use Rattle.std.proofs.Common.{◌+◌, drop, rules}
use Rattle.aw_term.specs.Artifacts.{row_text, artifact_text}
use Rattle.aw_grammar.specs.GrammarOf.{words_of}
use Rattle.aw_plain_rows.specs.RowView.{plain_row, config_of}
use Rattle.aw_plain.proofs.LineLemmas.{lines_more, then_prints, stops, no_lines}
use Rattle.aw_plain.proofs.print.print_rows.Goals as goal

pub returns-in_err-print_row : goal.returns-in_err-print_row
returns-in_err-print_row c =
    let w = words_of c.args.grammar.now in
    let rows = c.args.rows.now in
    let i = c.loop-row.row-index in
    let q = c.row-item.result in
    c.loop-row.invariant _ _ (stops (artifact_text w (config_of (drop i rows))) (row_text w (plain_row q))
    (artifact_text w (config_of (drop (i + 1) rows))) c.loop-row.report c.print_row.new.report c.print_row.result c.from_residual.result _
    (lines_more w rows i q c.loop-row-test.true c.row-item.is) c.in_err-print_row.was (search rules) c.print_row.ensures)

pub loop-row-preserved : goal.loop-row-preserved
loop-row-preserved c = λ new r next.
    let w = words_of c.args.grammar.now in
    let rows = c.args.rows.now in
    let i = c.loop-row.row-index in
    let q = c.row-item.result in
    c.loop-row.invariant new r (then_prints (artifact_text w (config_of (drop i rows))) (row_text w (plain_row q))
    (artifact_text w (config_of (drop (i + 1) rows))) c.loop-row.report c.print_row.new.report new c.print_row.result r _
    (lines_more w rows i q c.loop-row-test.true c.row-item.is) c.in_ok-print_row.was c.print_row.ensures next)

pub returns : goal.returns
returns c = c.loop-row.invariant _ _ (no_lines (words_of c.args.grammar.now) c.args.rows.now c.loop-row.row-index c.loop-row.report c.loop-row-test.false)
