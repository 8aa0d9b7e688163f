use Rattle.std.specs.Prelude.{Result, drop}
use Rattle.aw_term.specs.Artifacts.{artifact_text}
use Rattle.aw_grammar.specs.GrammarOf.{words_of}
use Rattle.aw_out.specs.Report.{Bounded, Prints}
use Rattle.aw_out.specs.declared.error.PrintFault.{PrintFault}
use Rattle.aw_plain_rows.specs.RowView.{config_of}
use Rattle.aw_plain.proofs.print.print_rows.Given as goal

abbrev pub invariant-loop-row : goal.invariant-loop-row
invariant-loop-row l = (new : Bounded) (r : Result Unit PrintFault) →
    Prints (artifact_text (words_of l.grammar) (config_of (drop l.row-index l.rows))) l.report new r →
    Prints (artifact_text (words_of l.grammar) (config_of l.rows)) l.fn.report new r
