-- What a refusal says of a grammar.
use Rattle.std.specs.Prelude.{◌≡◌, Some}
use Rattle.aw_grammar.specs.declared.grammar.Grammar.{Grammar}
use Rattle.aw_grammar.specs.GrammarOf.{grammar_of}
use Rattle.aw_accept.specs.declared.refused.Refused.{Refused}
use Rattle.aw_accept.specs.declared.refused.Refused.TheVariants.{Circular, NoMemory}
use Rattle.aw_accept.specs.Circular.{LeastFault}

-- a circle: the grammar is handed back, with its least rule at fault and the least occurrence in it
abbrev pub Tells : Grammar → Refused → Type 0
Tells g (Circular grammar rule occ) = (grammar ≡ g) × LeastFault (grammar_of g) (Some (record { rule = rule; occ = occ }))
Tells g NoMemory = Unit {0}
