-- The choices among the events of a schedule, which the undivided run answers.
use Rattle.std.specs.Prelude.{ℕ, List, [], ◌∷◌}
use Rattle.aw_term.specs.Choices.{Choice}
use Rattle.aw_term.specs.Runs.{plain_text}
use Rattle.aw_grammar.specs.declared.grammar.Grammar.{Grammar}
use Rattle.aw_grammar.specs.GrammarOf.{grammar_of, words_of}
use Rattle.aw_choice.specs.Events.{Event, Chooses, Delivers, Settles, Lists}

-- the choices among events, in their order
abbrev pub choices_in : List Event → List Choice
choices_in [] = []
choices_in (Chooses x ∷ es) = x ∷ choices_in es
choices_in (Delivers k ∷ es) = choices_in es
choices_in (Settles ∷ es) = choices_in es
choices_in (Lists role ∷ es) = choices_in es

-- what the undivided run tells of the choices among events
abbrev pub undivided_text : Grammar → List Event → List ℕ
undivided_text g es = plain_text (words_of g) (grammar_of g) (choices_in es)
