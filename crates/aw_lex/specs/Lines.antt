-- The lines of a text.
use Rattle.std.specs.Prelude.{ℕ, Bool, true, ◌==◌, List, [], ◌∷◌, length, Option, Some, None, unwrap_or, if◌then◌else◌}
use Rattle.std.specs.List.{slice_split}
use Rattle.aw_spelling.specs.Spelling.{cut}
use Rattle.aw_lex.specs.Tokens.{is_blank}

-- An empty rest behind the last line feed is no line.
abbrev pub without_empty_last : List (List ℕ) → List (List ℕ)
without_empty_last [] = []
without_empty_last (line ∷ []) = if length line == 0 then [] else line ∷ []
without_empty_last (line ∷ next ∷ more) = line ∷ without_empty_last (next ∷ more)

-- the lines of a text, each without its line feed
abbrev pub lines_of : List ℕ → List (List ℕ)
lines_of text = without_empty_last (slice_split (λ b. b == 10) text)

-- the first line, and the text behind its line feed
-- (without a line feed the text is one line, with nothing behind it)
abbrev pub first_line : List ℕ → Option (List ℕ × List ℕ)
first_line [] = None
first_line (b ∷ bs) = Some (unwrap_or (cut 10 (b ∷ bs)) (b ∷ bs, []))

-- the lines of a text whose first line this is
abbrev pub lines_from : Option (List ℕ × List ℕ) → List (List ℕ)
lines_from None = []
lines_from (Some first) = first.0 ∷ lines_of first.1

-- Blanks alone, or a comment: the first byte past the blanks is '%'.
abbrev pub passed_over : List ℕ → Bool
passed_over [] = true
passed_over (b ∷ bs) = if is_blank b then passed_over bs else b == 37
