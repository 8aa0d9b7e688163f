-- What a read of bytes in memory answers.
use Rattle.std.specs.Prelude.{ℕ, List, [], ◌∷◌, length, min, drop}
use Rattle.aw_out.specs.declared.edge.Got.{Got}
use Rattle.aw_out.specs.declared.edge.Got.TheVariants.{Read, End, Failed}

-- a read of at most so many bytes, where these are left
abbrev pub answer_of : List ℕ → ℕ → Got
answer_of [] most = End
answer_of (first ∷ rest) most = Read (min (length (first ∷ rest)) most)

-- what is left after this answer
abbrev pub left_after : Got → List ℕ → List ℕ
left_after (Read n) left = drop n left
left_after End left = left
left_after Failed left = left
