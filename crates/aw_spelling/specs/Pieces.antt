-- One piece of what stands behind an opening quote.
use Rattle.std.specs.Prelude.{ℕ, suc, ◌<◌, ◌≤◌, ◌+◌, ◌++◌, length, ◌==◌, List, [], ◌∷◌, Option, Some, None, option_map, if◌then◌else◌}
use Rattle.std.specs.Int.{w64, trailing_zeros}
use Rattle.aw_spelling.specs.declared.quote.Piece.{Piece}
use Rattle.aw_spelling.specs.declared.quote.Piece.TheVariants.{Close, Byte, Run, Broken}
use Rattle.aw_spelling.specs.Spelling.{content_before_quote, with_front, stands_for_itself}

-- the place of the lowest bit of a mask, or 16 where none is set
abbrev pub first_set : ℕ → ℕ
first_set mask = if mask == 0 then 16 else trailing_zeros w64 mask

-- how many bytes at the front stand for themselves
abbrev pub run_len : List ℕ → ℕ
run_len [] = 0
run_len (b ∷ bs) = if stands_for_itself b then suc (run_len bs) else 0

-- bytes in front of the first of two texts
abbrev pub with_run : List ℕ → List ℕ × List ℕ → List ℕ × List ℕ
with_run run pair = (run ++ pair.0, pair.1)

-- the text that begins with this piece
abbrev pub text_from : Piece → Option (List ℕ × List ℕ)
text_from (Close rest) = Some ([], rest.now)
text_from (Byte b rest) = option_map (with_front b) (content_before_quote rest.now)
text_from (Run run rest) = option_map (with_run run.now) (content_before_quote rest.now)
text_from Broken = None

-- what follows the piece is shorter than n bytes, and with a run not longer than they are
abbrev pub IsShorter : Piece → ℕ → Type 0
IsShorter (Close rest) n = length rest.now < n
IsShorter (Byte b rest) n = length rest.now < n
IsShorter (Run run rest) n = (length rest.now < n) × (length run.now + length rest.now ≤ n)
IsShorter Broken n = Unit {0}

-- and not longer
abbrev pub IsNoLonger : Piece → ℕ → Type 0
IsNoLonger piece n = IsShorter piece (n + 1)
