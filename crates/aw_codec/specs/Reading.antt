-- Reading from left to right: what stands at the front of some bytes with the bytes behind it, or the first fault.
use Rattle.std.specs.Prelude.{ℕ, zero, suc, List, [], ◌∷◌, length, take, drop, Bool, Result, Ok, Err, nat_lt, if◌then◌else◌}
use Rattle.std.specs.Int.{Width, byte_len, from_be_bytes}

-- Short: fewer bytes are left than the next item has. Bad: an item breaks its rule, and from its first byte on so many bytes are left.
pub data Fault : Type 0 where
  Short : Fault
  Bad : (left : ℕ) → Fault

-- what reads an A at the front of bytes, with the bytes behind it, or tells the first fault
abbrev pub Reader : Type 0 → Type 0
Reader A = List ℕ → Result (A × List ℕ) Fault

infixl 10 ◌>>=◌
-- the second goes on with what the first read, unless that was a fault
abbrev pub ◌>>=◌ : {A B : Type 0} → Result A Fault → (A → Result B Fault) → Result B Fault
(Ok x) >>= f = f x
(Err e) >>= f = Err e

-- one byte
abbrev pub byte : Reader ℕ
byte [] = Err Short
byte (b ∷ rest) = Ok (b, rest)

-- a number of so many bytes, the highest first
abbrev pub number : Width → Reader ℕ
number w bytes = if nat_lt (length bytes) (byte_len w) then Err Short else Ok (from_be_bytes w (take (byte_len w) bytes), drop (byte_len w) bytes)

-- an item that keeps a rule
abbrev pub such_that : {A : Type 0} → (A → Bool) → Reader A → Reader A
such_that rule item bytes = item bytes >>= λ x. if rule x.0 then Ok x else Err (Bad (length bytes))

-- one and then the other
abbrev pub both : {A B : Type 0} → Reader A → Reader B → Reader (A × B)
both first second bytes = first bytes >>= λ x. second x.1 >>= λ y. Ok ((x.0, y.0), y.1)

-- what was read, seen by f
abbrev pub seen : {A B : Type 0} → (A → B) → Reader A → Reader B
seen f item bytes = item bytes >>= λ x. Ok (f x.0, x.1)

-- so many, one behind the other
abbrev pub times : {A : Type 0} → Reader A → ℕ → Reader (List A)
times item zero bytes = Ok ([], bytes)
times item (suc n) bytes = item bytes >>= λ x. times item n x.1 >>= λ xs. Ok (x.0 ∷ xs.0, xs.1)

-- how many there are, and then that many
abbrev pub counted : {A : Type 0} → Reader ℕ → Reader A → Reader (List A)
counted count item bytes = count bytes >>= λ n. times item n.0 n.1
