-- Bytes on their way to a sink: some were written, and some are left.
use Rattle.std.specs.Prelude.{◌≡◌, ℕ, ◌≤◌, List, ◌++◌, Ok, Err}
use Rattle.std.specs.declared.option.Option.{Option}
use Rattle.std.specs.declared.result.Result.{Result}
use Rattle.aw_out.specs.Causes.{Rose}
use Rattle.aw_out.specs.Edge.{Gets, GetsPrefix}
use Rattle.aw_book_join.specs.declared.fault.TasksFault.{TasksFault}
use Rattle.aw_book_join.specs.declared.fault.TasksFault.TheVariants.{WriteFault, TooLong, NoMemory}

-- of this text so much was written that these bytes are left of it
pub record HandsOn (old now : Option (List ℕ)) (left text : List ℕ) : Type 0 where
  pub written : List ℕ
  pub gets : Gets old now written
  pub whole : text ≡ written ++ left

-- of this text these bytes are left, or the front of it was written and no more is
abbrev pub Hands : Option (List ℕ) → Option (List ℕ) → List ℕ → List ℕ → Result Unit TasksFault → Type 0
Hands old now text left (Ok done) = HandsOn old now left text
Hands old now text left (Err fault) = GetsPrefix old now text

-- the text was written, or the front of it
abbrev pub Writes : Option (List ℕ) → Option (List ℕ) → List ℕ → Result Unit TasksFault → Type 0
Writes old now text (Ok done) = Gets old now text
Writes old now text (Err fault) = GetsPrefix old now text

-- a write failed where that is told, and nowhere else
abbrev pub CountsWrites : ℕ → ℕ → Result Unit TasksFault → Type 0
CountsWrites before now (Ok done) = now ≡ before
CountsWrites before now (Err WriteFault) = Rose before now × (before ≤ now)
CountsWrites before now (Err (TooLong task)) = now ≡ before
CountsWrites before now (Err NoMemory) = now ≡ before
