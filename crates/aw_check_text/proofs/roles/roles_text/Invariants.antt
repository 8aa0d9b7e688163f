use Rattle.aw_grammar.specs.GrammarOf.{grammar_of, words_of}
use Rattle.aw_check_text.specs.Telling.{TellsFirst}
use Rattle.aw_check_text.proofs.roles.roles_text.Given as goal

abbrev pub invariant-loop-role : goal.invariant-loop-role
invariant-loop-role l = TellsFirst l.f.offers l.declared (words_of l.g) (grammar_of l.g) l.role l.text l.joined
