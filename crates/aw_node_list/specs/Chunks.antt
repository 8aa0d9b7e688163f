-- Numbers in chunks: one chunk after the other, and the places at which the chunks begin.
use Rattle.std.specs.Prelude.{◌≡◌, ℕ, ◌+◌, ◌<◌, ◌≤◌, List, [], ◌∷◌, ◌++◌, length, take, insert, slice_set, slice_index_or}
use Rattle.std.specs.List.{concat}

-- numbers in their order, and for how many more there is room
pub record Numbered : Type 0 where
  pub items : List ℕ
  pub room : ℕ

-- chunks in their order, and how many more can be begun
pub record Chunked : Type 0 where
  pub chunks : List (List ℕ)
  pub spare : ℕ

-- the places at which the chunks begin, where the first begins at n
abbrev pub begins : ℕ → List (List ℕ) → List ℕ
begins n [] = []
begins n (c ∷ cs) = n ∷ begins (n + length c) cs

-- the place at which a chunk begins
abbrev pub begin_of : List (List ℕ) → ℕ → ℕ
begin_of cs i = length (concat (take i cs))

-- a chunk by its position
abbrev pub chunk_at : List (List ℕ) → ℕ → List ℕ
chunk_at cs i = slice_index_or cs i []

-- A chunk begins no later than the place, and the next one behind it.
pub record IsUnder (starts : List ℕ) (place i : ℕ) : Type 0 where
  pub within : i < length starts
  pub from : slice_index_or starts i 0 ≤ place
  pub to : i + 1 < length starts → place < slice_index_or starts (i + 1) 0

-- The place lies in the chunk, or right behind it.
pub record LiesIn (cs : List (List ℕ)) (place i : ℕ) : Type 0 where
  pub within : i < length cs
  pub from : begin_of cs i ≤ place
  pub to : place ≤ begin_of cs i + length (chunk_at cs i)

-- A full chunk became two, each with half of its numbers.
pub record IsHalved (old : List (List ℕ)) (i : ℕ) (new : List (List ℕ)) : Type 0 where
  pub lower : List ℕ
  pub upper : List ℕ
  pub whole : chunk_at old i ≡ lower ++ upper
  pub even : (length lower ≡ 256) × (length upper ≡ 256)
  pub is : new ≡ insert (slice_set old i lower) (i + 1) upper
