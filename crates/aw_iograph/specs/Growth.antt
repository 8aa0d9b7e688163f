-- Marks that are set one by one and never taken back.
use Rattle.std.specs.Prelude.{◌≡◌, ℕ, suc, ◌<◌, Bool, true, false, List, [], ◌∷◌, length, Some, slice_get}

-- the mark at a place is set
abbrev pub Marked : List Bool → ℕ → Type 0
Marked marks k = slice_get marks k ≡ Some true

-- how many marks are left to set
abbrev pub unset : List Bool → ℕ
unset [] = 0
unset (true ∷ marks) = unset marks
unset (false ∷ marks) = suc (unset marks)

-- each mark that was set is still set; where none was added the marks are the same, and else fewer are left to set
pub record Grown (old new : List Bool) (changed : Bool) : Type 0 where
  pub size : length new ≡ length old
  pub kept : (k : ℕ) → Marked old k → Marked new k
  pub same : changed ≡ false → new ≡ old
  pub fewer : changed ≡ true → unset new < unset old
