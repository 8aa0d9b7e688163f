-- A line of a specification is read just as it is spelled.
use Rattle.std.specs.Prelude.{◌≡◌, ℕ, Bool, List, Some}
use Rattle.aw_term.specs.WellFormed.{Each}
use Rattle.aw_grammar.specs.Written.{WrittenChild, side_by_side}
use Rattle.aw_term_reader.specs.Lexemes.{Lexeme}
use Rattle.aw_term_reader.specs.Laws.{AreWritten}
use Rattle.aw_spec.specs.Lines.{Line, RoleLine, ConLine, SortLine, StartLine, OfferLine, UseLine, TypeLine, ShapeLine, CarryLine, DependsLine, FreeLine, RuleLine, ScheduleLine, line_spelling}
use Rattle.aw_spec.specs.ReadLine.{line_of}
use Rattle.aw_spec.specs.Reading.{Spec, Good, specification}
use Rattle.aw_spec.specs.TypesFit.{TypesFit}

-- the arguments of a subtask can be spelled
abbrev pub IsWrittenChild : WrittenChild → Type 0
IsWrittenChild c = AreWritten (side_by_side c.args)

-- its terms can be spelled
abbrev pub IsWrittenLine : Line → Type 0
IsWrittenLine (RoleLine name) = Unit {0}
IsWrittenLine (ConLine name arity) = Unit {0}
IsWrittenLine (SortLine name role takes gives) = Unit {0}
IsWrittenLine (StartLine sort) = Unit {0}
IsWrittenLine (OfferLine sort) = Unit {0}
IsWrittenLine (UseLine role sort) = Unit {0}
IsWrittenLine (TypeLine name) = Unit {0}
IsWrittenLine (ShapeLine con parts own) = Unit {0}
IsWrittenLine (CarryLine sort takes gives) = Unit {0}
IsWrittenLine (DependsLine sort i j) = Unit {0}
IsWrittenLine FreeLine = Unit {0}
IsWrittenLine (RuleLine rule) = AreWritten (side_by_side rule.patterns) × AreWritten (side_by_side rule.results) × Each IsWrittenChild rule.children
IsWrittenLine (ScheduleLine loads) = Unit {0}

-- a line that is spelled is read again
abbrev pub ReadsSpelledLines : Type 0
ReadsSpelledLines = (line : Line) → IsWrittenLine line → line_of (line_spelling line) ≡ Some line

-- what was read is spelled so
abbrev pub SpelledIfReadLines : Type 0
SpelledIfReadLines = (ls : List Lexeme) (line : Line) → line_of ls ≡ Some line → ls ≡ line_spelling line

-- the types and the dependences of a specification that was read fit what it declares
abbrev pub TypesFitIfRead : Type 0
TypesFitIfRead = (lines : List (List ℕ)) (s : Spec) (n : ℕ) (loads : Bool) → specification lines ≡ Good s n loads → TypesFit s
