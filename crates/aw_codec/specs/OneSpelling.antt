-- Reading and spelling belong together, and each value has one spelling.
use Rattle.std.specs.Prelude.{◌≡◌, ◌≢◌, ℕ, List, [], ◌++◌, Ok, Err}
use Rattle.aw_codec.specs.Bytes.{AreBytes}
use Rattle.aw_codec.specs.Reading.{Short, Reader}

-- what is spelled is read, whatever follows
abbrev pub ReadsSpelled : {A : Type 0} → Reader A → (A → List ℕ) → (A → Type 0) → (A → Type 0) → Type 0
ReadsSpelled {A} read spelled Sized InRange = (x : A) (rest : List ℕ) → Sized x → InRange x → read (spelled x ++ rest) ≡ Ok (x, rest)

-- what is read is spelled so, and is in range
abbrev pub SpelledIfRead : {A : Type 0} → Reader A → (A → List ℕ) → (A → Type 0) → (A → Type 0) → Type 0
SpelledIfRead {A} read spelled Sized InRange = (bytes : List ℕ) (x : A) (rest : List ℕ) → AreBytes bytes → read bytes ≡ Ok (x, rest) → (bytes ≡ spelled x ++ rest) × Sized x × InRange x

-- no spelling begins another one
abbrev pub NoneBeginsAnother : {A : Type 0} → (A → List ℕ) → (A → Type 0) → (A → Type 0) → Type 0
NoneBeginsAnother {A} spelled Sized InRange =
    (x y : A) (rest more : List ℕ) → Sized x → InRange x → Sized y → InRange y → spelled x ++ rest ≡ spelled y ++ more → (x ≡ y) × (rest ≡ more)

-- where something of a spelling is cut off, more bytes are needed
abbrev pub CutIsShort : {A : Type 0} → Reader A → (A → List ℕ) → (A → Type 0) → (A → Type 0) → Type 0
CutIsShort {A} read spelled Sized InRange = (x : A) (bytes more : List ℕ) → Sized x → InRange x → spelled x ≡ bytes ++ more → more ≢ [] → read bytes ≡ Err Short
