use Rattle.std.proofs.Common.{◌≡◌, drop}
use Rattle.aw_grammar.specs.GrammarOf.{grammar_of}
use Rattle.aw_law_sites.specs.ValidNames.{refs_ok}
use Rattle.aw_site.proofs.validity.refs_ok.Given as goal

abbrev pub invariant-loop-r : goal.invariant-loop-r
invariant-loop-r l = refs_ok (grammar_of l.g) (drop l.r-index l.refs) ≡ refs_ok (grammar_of l.g) l.refs
