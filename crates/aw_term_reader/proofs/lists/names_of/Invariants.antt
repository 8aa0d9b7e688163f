use Rattle.std.proofs.Common.{◌≡◌, map}
use Rattle.std.specs.Vec.Iter.{into_iter_items}
use Rattle.aw_grammar.specs.Written.{written_of}
use Rattle.aw_term_reader.specs.Terms as terms
use Rattle.aw_term_reader.proofs.ReaderLemmas.{behind}
use Rattle.aw_term_reader.proofs.lists.names_of.Given as goal

abbrev pub invariant-loop-term : goal.invariant-loop-term
invariant-loop-term l = behind l.names (terms.names_of (map written_of (into_iter_items l.term-iterator))) ≡ terms.names_of (map written_of l.fn.terms)
