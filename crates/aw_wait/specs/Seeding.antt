-- Pairs that are added to a relation, and what a rule holds up.
use Rattle.std.specs.Prelude.{◌≡◌, ℕ, ◌<◌, ◌≤◌, ◌⊎◌, ◌↔◌, Some, slice_get}
use Rattle.aw_term.specs.Rules as P
use Rattle.aw_term.specs.Rules.{Term}
use Rattle.aw_grammar.specs.declared.grammar.Grammar.{Grammar}
use Rattle.aw_iograph.specs.declared.io.Io.{Io}
use Rattle.aw_iograph.specs.Occurrences.{item}
use Rattle.aw_iograph.specs.Pairs.{Has, HasSort, IsFor}
use Rattle.aw_accept.specs.Acyclic.{gives}
use Rattle.aw_wait.specs.Waiting.{Looks}

-- the new relation has the sorts of the old one, and of pairs those of the old one, those with P, and no others
pub record Adds (old new : Io) (P : ℕ → ℕ → ℕ → Type 0) : Type 0 where
  pub made : (g : Grammar) → IsFor g old → IsFor g new
  pub sorts : (s : ℕ) → HasSort old s → HasSort new s
  pub pairs : (s i j : ℕ) → Has new s i j ↔ (Has old s i j ⊎ P s i j)

-- an inherited value of a sort with each of so many results
abbrev pub AtValue : (sort count value : ℕ) → ℕ → ℕ → ℕ → Type 0
AtValue sort count value s i j = (s ≡ sort) × (i ≡ value) × (0 < j) × (j ≤ count)

-- the same, where the pattern of the value looks at it
abbrev pub AtPattern : (sort count value : ℕ) → Term → ℕ → ℕ → ℕ → Type 0
AtPattern sort count value p s i j = Looks p × AtValue sort count value s i j

-- the rule has a pattern at inherited value i that looks
abbrev pub LooksAt : P.Rule → ℕ → Type 0
LooksAt r i = (p : Term) × (item r.patterns i ≡ Some p) × Looks p

-- each result of a rule's sort is held up by each inherited value at which the rule looks
abbrev pub IsHeldUpBy : P.Grammar → P.Rule → ℕ → ℕ → ℕ → Type 0
IsHeldUpBy g r s i j = (s ≡ r.sort) × LooksAt r i × (0 < j) × (j ≤ gives g r.sort)

-- what the first n rules hold up
abbrev pub IsHeldUpBefore : P.Grammar → ℕ → ℕ → ℕ → ℕ → Type 0
IsHeldUpBefore g n s i j = (k : ℕ) × (k < n) × (r : P.Rule) × (slice_get g.rules k ≡ Some r) × IsHeldUpBy g r s i j
