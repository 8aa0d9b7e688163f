use Rattle.std.proofs.Common.{◌≡◌, drop, map}
use Rattle.aw_grammar.specs.GrammarOf.{grammar_of}
use Rattle.aw_store.specs.EquationView.{equation_of}
use Rattle.aw_law_sites.specs.Receiving.{none_mine}
use Rattle.aw_site.proofs.belonging.none_mine.Given as goal

abbrev pub invariant-loop-e : goal.invariant-loop-e
invariant-loop-e l = none_mine (grammar_of l.g) l.role (map equation_of (drop l.e-index l.es)) ≡ none_mine (grammar_of l.g) l.role (map equation_of l.es)
