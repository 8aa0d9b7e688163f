use Rattle.std.proofs.Common.{◌≡◌, ◌++◌, drop}
use Rattle.aw_grammar.specs.GrammarOf.{grammar_of}
use Rattle.aw_standing.specs.Records.{rules_of}
use Rattle.aw_trial.proofs.rules.rules_of.Given as goal

abbrev pub invariant-loop-number : goal.invariant-loop-number
invariant-loop-number l = l.rules.items ++ rules_of l.sort l.number (drop l.number (grammar_of l.g).rules) ≡ rules_of l.sort 0 (grammar_of l.g).rules
