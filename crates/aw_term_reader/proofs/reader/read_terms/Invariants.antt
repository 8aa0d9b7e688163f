use Rattle.std.proofs.Common.{◌≡◌, length}
use Rattle.aw_term_reader.specs.Lexemes.{lexemes}
use Rattle.aw_term_reader.specs.Terms as terms
use Rattle.aw_term_reader.specs.Reader.{expected_of, reading_of}
use Rattle.aw_term_reader.proofs.reader.read_terms.Given as goal

abbrev pub invariant-loop-rest : goal.invariant-loop-rest
invariant-loop-rest l =
    terms.read_terms l.close (reading_of l.reader) (lexemes l.line l.rest) ≡ terms.read_terms l.close (terms.nothing_read (expected_of l.fn.expected)) (lexemes l.line l.fn.tokens)

abbrev pub decreases-loop-rest : goal.decreases-loop-rest
decreases-loop-rest l = length l.rest
