-- A line of a schedule is read just as it is spelled.
use Rattle.std.specs.Prelude.{◌≡◌, List, Some}
use Rattle.aw_grammar.specs.Written.{side_by_side}
use Rattle.aw_term_reader.specs.Lexemes.{Lexeme}
use Rattle.aw_term_reader.specs.Laws.{AreWritten}
use Rattle.aw_sched.specs.Lines.{Line, StartLine, ChooseLine, DeliverLine, SettleLine, ListLine, line_of}
use Rattle.aw_sched.specs.LineSpelling.{line_spelling}

-- its arguments can be spelled
abbrev pub IsWrittenLine : Line → Type 0
IsWrittenLine (StartLine sort case) = Unit {0}
IsWrittenLine (ChooseLine node rule args) = AreWritten (side_by_side args)
IsWrittenLine (DeliverLine message) = Unit {0}
IsWrittenLine SettleLine = Unit {0}
IsWrittenLine (ListLine role) = Unit {0}

-- a line that is spelled is read as that line
abbrev pub ReadsSpelledLines : Type 0
ReadsSpelledLines = (line : Line) → IsWrittenLine line → line_of (line_spelling line) ≡ Some line

-- what was read is spelled so
abbrev pub SpelledIfReadLines : Type 0
SpelledIfReadLines = (ls : List Lexeme) (line : Line) → line_of ls ≡ Some line → ls ≡ line_spelling line
