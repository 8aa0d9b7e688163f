-- Reading and spelling of lists of terms are inverse to each other.
use Rattle.std.specs.Prelude.{◌≡◌, ◌≢◌, ℕ, List, ◌∷◌, ◌++◌, Some}
use Rattle.aw_term.specs.Trees as P
use Rattle.aw_grammar.specs.Written.{Written, Word, Apply, Literal, Writtens, Empty, Then, side_by_side}
use Rattle.aw_term_reader.specs.Lexemes.{Lexeme, Mark}
use Rattle.aw_term_reader.specs.Terms.{spellings, terms_up_to}

-- no constructor stands in place of a number or a text
abbrev pub IsLiteral : P.Head → Type 0
IsLiteral (P.Con c) = P.Never
IsLiteral (P.Num n) = Unit {0}
IsLiteral (P.Text t) = Unit {0}

-- each literal in a written term is a number or a text
abbrev mutual
  pub IsWritten : Written → Type 0
  IsWritten (Word name) = Unit {0}
  IsWritten (Apply name parts) = AreWritten parts
  IsWritten (Literal h) = IsLiteral h

  pub AreWritten : Writtens → Type 0
  AreWritten Empty = Unit {0}
  AreWritten (Then t ts) = IsWritten t × AreWritten ts

-- spelled terms with a closing mark behind them, which is neither `(` (40) nor a comma (44)
abbrev pub ReadsSpelled : Type 0
ReadsSpelled = (close : ℕ) (ts : List Written) (rest : List Lexeme) → close ≢ 40 → close ≢ 44 → AreWritten (side_by_side ts) →
    terms_up_to close (spellings (side_by_side ts) ++ Mark close ∷ rest) ≡ Some (ts, rest)

-- what was read is spelled so
abbrev pub SpelledIfRead : Type 0
SpelledIfRead = (close : ℕ) (ls : List Lexeme) (ts : List Written) (rest : List Lexeme) →
    terms_up_to close ls ≡ Some (ts, rest) → ls ≡ spellings (side_by_side ts) ++ Mark close ∷ rest
