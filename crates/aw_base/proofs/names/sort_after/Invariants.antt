use Rattle.std.proofs.Common.{◌≡◌, drop}
use Rattle.aw_term.specs.Rules.{sort_after}
use Rattle.aw_grammar.specs.GrammarOf.{grammar_of}
use Rattle.aw_base.proofs.names.sort_after.Given as goal

abbrev pub invariant-loop-step : goal.invariant-loop-step
invariant-loop-step l = sort_after (grammar_of l.g) l.sort (drop l.step-index l.steps) ≡ sort_after (grammar_of l.g) l.fn.start l.fn.steps
