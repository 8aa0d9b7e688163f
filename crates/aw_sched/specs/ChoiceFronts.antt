-- The front of a line that begins with `choose `.
use Rattle.std.specs.Prelude.{◌≡◌, ℕ, List, [], ◌∷◌, ◌++◌, codes}

-- nothing, or bytes of which the first is a space
abbrev pub EndsAtSpace : List ℕ → Type 0
EndsAtSpace [] = Unit {0}
EndsAtSpace (b ∷ bs) = b ≡ 32

-- the line is `choose `, a word, and what stands behind it
pub record IsCutChoice (line word rest : List ℕ) : Type 0 where
  pub bytes : line ≡ codes "choose " ++ (word ++ rest)
  pub ends : EndsAtSpace rest
