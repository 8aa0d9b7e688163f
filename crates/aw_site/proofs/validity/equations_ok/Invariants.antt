use Rattle.std.proofs.Common.{◌≡◌, drop, map}
use Rattle.aw_grammar.specs.GrammarOf.{grammar_of}
use Rattle.aw_store.specs.EquationView.{equation_of}
use Rattle.aw_law_sites.specs.ValidNames.{equations_ok}
use Rattle.aw_site.proofs.validity.equations_ok.Given as goal

abbrev pub invariant-loop-e : goal.invariant-loop-e
invariant-loop-e l = equations_ok (grammar_of l.g) (map equation_of (drop l.e-index l.es)) ≡ equations_ok (grammar_of l.g) (map equation_of l.es)
