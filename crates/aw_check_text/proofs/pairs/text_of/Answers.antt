use Rattle.std.proofs.Common.{arith, codes}
use Rattle.aw_grammar.specs.GrammarOf.{grammar_of, words_of}
use Rattle.aw_check_text.specs.Told.{lines_of_sort}
use Rattle.aw_check_text.specs.PairTests.{has_pair}
use Rattle.aw_check_text.proofs.Lines.{lines-next}
use Rattle.aw_check_text.proofs.pairs.text_of.Goals as goal

pub loop-sort-preserved : goal.loop-sort-preserved
loop-sort-preserved c =
    lines-next (lines_of_sort (has_pair c.args.io.now) (words_of c.args.g.now) (grammar_of c.args.g.now)) 0 c.loop-sort.sort c.loop-sort.sort
    (codes "accepted\n") _ _ (omega arith) c.loop-sort.invariant c.in_ok-push_sort.ensures
