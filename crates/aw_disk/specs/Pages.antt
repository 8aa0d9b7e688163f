-- Files as they are read.
use Rattle.std.specs.Prelude.{ℕ, ◌<◌, ◌^◌, List, length, get_or, Bool, ◌&&◌, cond, nat_lt, None, Some}
use Rattle.std.specs.declared.option.Option.{Option}
use Rattle.std.specs.List.{list_all}

-- whether a number is a byte
abbrev pub is_byte : ℕ → Bool
is_byte n = nat_lt n 256

-- whether a file can have these: they are bytes, and fewer than 2^64
abbrev pub is_file : List ℕ → Bool
is_file bytes = nat_lt (length bytes) (2 ^ 64) && list_all is_byte bytes

-- a file can have these
pub record IsFile (bytes : List ℕ) : Type 0 where
  pub bounded : length bytes < 2 ^ 64
  pub are_bytes : (i : ℕ) → get_or bytes i 0 < 256

-- these bytes, where they are told and a file can have them
unfoldable pub told_bytes : Bool → List ℕ → Option (List ℕ)
told_bytes told bytes = cond (told && is_file bytes) (Some bytes) None
