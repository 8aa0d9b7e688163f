use Rattle.std.proofs.Common.{◌≡◌, ℕ, ◌<◌, Some, slice_get}
use Rattle.aw_base.specs.declared.declared.Triple.{Triple}
use Rattle.aw_grammar.specs.GrammarOf.{grammar_of}
use Rattle.aw_modular.specs.Refusals.{IsPosition}
use Rattle.aw_modular.proofs.positions.are_positions.Given as goal

abbrev pub invariant-loop-triple : goal.invariant-loop-triple
invariant-loop-triple l = (k : ℕ) → k < l.triple-index → (t : Triple) → slice_get l.declared k ≡ Some t → IsPosition (grammar_of l.g).sorts t
