use Rattle.std.proofs.Common.{subst}
use Rattle.aw_cells.specs.contracts.cells.CellFactsFacts.TheImpl as cells
use Rattle.aw_grammar.specs.GrammarOf.{grammar_of, words_of}
use Rattle.aw_out.specs.Report.{Prints}
use Rattle.aw_world.proofs.HeldRows.{same_line, inherited_unfold, results_unfold}
use Rattle.aw_world.proofs.sites.print_held.Goals as goal

pub returns-clause-prints : goal.returns-clause-prints
returns-clause-prints c = λ q read.
    let g = grammar_of c.args.g.now in
    let k = (cells.ghosts).map c.args.facts.now in
    let h = c.args.held.now in
    subst (λ t. Prints t c.args.report.now c.artifact_row.new.report c.artifact_row.result) (same_line g k h q c.requires.named c.requires.done read (words_of c.args.g.now))
    (c.artifact_row.ensures.unfolded q.inherited q.results (inherited_unfold g k h q c.requires.named c.requires.done read) (results_unfold g k h q c.requires.named c.requires.done read))
