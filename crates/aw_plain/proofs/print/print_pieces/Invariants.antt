use Rattle.std.proofs.Common.{◌++◌}
use Rattle.aw_grammar.specs.GrammarOf.{words_of}
use Rattle.aw_plain.specs.Pieces.{pending, pieces_work, Continues}
use Rattle.aw_plain.proofs.print.print_pieces.Given as goal

abbrev pub invariant-loop-piece : goal.invariant-loop-piece
invariant-loop-piece l = Continues (pending (words_of l.grammar) l.fn.pieces.items) l.fn.report (l.text ++ pending (words_of l.grammar) l.pieces.items) l.report

abbrev pub decreases-loop-piece : goal.decreases-loop-piece
decreases-loop-piece l = pieces_work l.pieces.items
