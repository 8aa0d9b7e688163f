-- The texts of a rule's children, by the names of its grammar.
use Rattle.std.specs.Prelude.{ℕ, List, [], map}
use Rattle.aw_term.specs.Rules.{get}
use Rattle.aw_term.specs.Views.{term_of}
use Rattle.aw_grammar.specs.declared.rule.Child.{Child}
use Rattle.aw_grammar.specs.declared.grammar.Grammar.{Grammar}
use Rattle.aw_grammar.specs.GrammarOf.{words_of}
use Rattle.aw_grammar.specs.GrammarView.{child_of}
use Rattle.aw_spec_writer.specs.LineTexts.{child_text}
use Rattle.aw_spec_writer.specs.SpecLines.{named, named_child}

-- a child of a rule with these variables, whose results have these names
abbrev pub text_with : Grammar → List (List ℕ) → Child → List (List ℕ) → List ℕ
text_with g vars child results =
    child_text (record { sort = get [] (words_of g).sorts child.sort; args = map (named (words_of g).cons vars) (map term_of child.args); results = results })

-- a child of a rule with these variables, whose results have the first of the names that are left
abbrev pub text_of_next : Grammar → List (List ℕ) → Child → List (List ℕ) → List ℕ
text_of_next g vars child left = child_text (named_child (words_of g).cons (words_of g).sorts vars left (child_of g.sorts child))
