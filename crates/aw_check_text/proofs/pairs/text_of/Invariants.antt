use Rattle.std.proofs.Common.{◌≡◌, ◌++◌, codes, flat_map}
use Rattle.aw_term.specs.Rules.{upto}
use Rattle.aw_grammar.specs.GrammarOf.{grammar_of, words_of}
use Rattle.aw_check_text.specs.Told.{lines_of_sort}
use Rattle.aw_check_text.specs.PairTests.{has_pair}
use Rattle.aw_check_text.proofs.pairs.text_of.Given as goal

abbrev pub invariant-loop-sort : goal.invariant-loop-sort
invariant-loop-sort l = l.text ≡ codes "accepted\n" ++ flat_map (lines_of_sort (has_pair l.io) (words_of l.g) (grammar_of l.g)) (upto 0 l.sort)
