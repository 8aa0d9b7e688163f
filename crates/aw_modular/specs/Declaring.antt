-- What is declared, as far as it was read.
use Rattle.std.specs.Prelude.{◌≡◌, ℕ, ◌<◌, ◌⊎◌, ◌↔◌, List, Some, slice_get}
use Rattle.aw_base.specs.declared.declared.Triple.{Triple}
use Rattle.aw_term.specs.Trees.{Never}
use Rattle.aw_term.specs.Rules.{Grammar}
use Rattle.aw_iograph.specs.declared.io.Io.{Io}
use Rattle.aw_iograph.specs.Pairs.{Has}
use Rattle.aw_modular.specs.Roles.{IsOf}

-- what the first n declare
abbrev pub DeclaresBefore : List Triple → ℕ → ℕ → ℕ → ℕ → Type 0
DeclaresBefore ts n s i j = (k : ℕ) × (k < n) × (slice_get ts k ≡ Some (record { sort = s; i = i; j = j }))

-- where its sort has Q, this pair was added, and no other
abbrev pub AddsOne : Io → Io → (ℕ → Type 0) → Triple → Type 0
AddsOne old new Q t = (s i j : ℕ) → Has new s i j ↔ (Has old s i j ⊎ (Q s × (t ≡ record { sort = s; i = i; j = j })))

-- a sort of another role
abbrev pub IsElsewhere : Grammar → ℕ → ℕ → Type 0
IsElsewhere g role s = IsOf g role s → Never

-- any sort
abbrev pub IsAny : ℕ → Type 0
IsAny s = Unit {0}
