-- What is looked for in the rule that was declared last.
use Rattle.std.specs.Prelude.{◌≡◌, ℕ, List, [], ◌∷◌, ◌++◌, map, Option}
use Rattle.aw_grammar.specs.Declarations.{Entry}
use Rattle.aw_grammar.specs.GrammarOf.{entry}
use Rattle.aw_grammar.specs.GrammarView.{sorts_of}
use Rattle.aw_grammar.specs.declared.grammar.Grammar.{Grammar}
use Rattle.aw_face.specs.declared.faces.FaceKind.{FaceKind}
use Rattle.aw_face.specs.declared.faces.Faces.{Faces}
use Rattle.aw_face.specs.Faces.{rule_fault}

-- this is the first child at fault of the rule that was declared last, or there is none
abbrev pub IsLastFault : Grammar → Faces → Option (ℕ × FaceKind) → Type 0
IsLastFault g f fault = (front : List Entry) (e : Entry) → map (entry g.sorts) g.rules ≡ front ++ e ∷ [] → fault ≡ rule_fault (sorts_of g.sorts) f.offers f.uses e.rule
