-- What holds of every file as it is read.
use Rattle.std.specs.Prelude.{◌≡◌, ℕ, zero, suc, ◌<◌, ◌^◌, List, [], ◌∷◌, length, get_or, Bool, true, ◌&&◌, nat_lt, None, Some, IsTrue}
use Rattle.std.specs.List.{list_all}
use Rattle.std.proofs.Common.{refl, subst, arith, ltb-true, lt-ltb}
use Rattle.std.proofs.lemmas.Bool.{and_parts}
use Rattle.std.proofs.lemmas.Option.{cond_some}
use Rattle.aw_disk.specs.Pages.{is_byte, is_file, IsFile, told_bytes}

byte_at : (bytes : List ℕ) → list_all is_byte bytes ≡ true → (i : ℕ) → get_or bytes i 0 < 256
byte_at [] all i = omega arith
byte_at (b ∷ bytes) all zero = ltb-true b 256 (and_parts (is_byte b) (list_all is_byte bytes) all).0
byte_at (b ∷ bytes) all (suc i) = byte_at bytes (and_parts (is_byte b) (list_all is_byte bytes) all).1 i

all_bytes : (bytes : List ℕ) → ((i : ℕ) → get_or bytes i 0 < 256) → list_all is_byte bytes ≡ true
all_bytes [] each = refl
all_bytes (b ∷ bytes) each = both (is_byte b) (list_all is_byte bytes) (lt-ltb b 256 (each 0)) (all_bytes bytes (λ i. each (suc i)))
  where
    both : (x y : Bool) → x ≡ true → y ≡ true → (x && y) ≡ true
    both x y p q = rw (p, q) refl

-- what the test says
pub file_by_test : (bytes : List ℕ) → is_file bytes ≡ true → IsFile bytes
file_by_test bytes is =
    let parts = and_parts (nat_lt (length bytes) (2 ^ 64)) (list_all is_byte bytes) is in
    record { bounded = ltb-true (length bytes) (2 ^ 64) parts.0; are_bytes = byte_at bytes parts.1 }

pub test_by_file : (bytes : List ℕ) → IsFile bytes → is_file bytes ≡ true
test_by_file bytes is = rw (lt-ltb (length bytes) (2 ^ 64) is.bounded) (all_bytes bytes is.are_bytes)

-- what is told of a file is what it has, and a file can have it
pub told_is : (told : Bool) (bytes b : List ℕ) → told_bytes told bytes ≡ Some b → IsTrue told × (bytes ≡ b) × IsFile b
unfolding told_bytes
told_is told bytes b is =
    let found = cond_some (told && is_file bytes) bytes b is in
    let parts = and_parts told (is_file bytes) found.0 in
    (parts.0, found.1, subst IsFile found.1 (file_by_test bytes parts.1))

pub told_file : (told : Bool) (bytes : List ℕ) → IsTrue told → IsFile bytes → told_bytes told bytes ≡ Some bytes
unfolding told_bytes
told_file told bytes is_told file = rw (is_told, test_by_file bytes file) refl

-- where nothing is told, these are not
pub untold : (b : List ℕ) → None ≡ Some b → ⊥
untold b is = cc
