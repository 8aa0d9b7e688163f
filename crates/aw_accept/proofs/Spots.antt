-- Occurrences by what they are: an inherited value or a result.
use Rattle.std.proofs.Common.{ℕ}
use Rattle.aw_term.specs.Rules.{Rule}
use Rattle.aw_iograph.specs.declared.occ.Occ.{Occ}
use Rattle.aw_iograph.specs.Graphs.{Plus, step, more}
use Rattle.aw_iograph.specs.Occurrences.{inherited, given}
use Rattle.aw_iograph.specs.Dependence.{Edge}

pub data Spot : Type 0 where
  Inh : (at number : ℕ) → Spot
  Out : (at number : ℕ) → Spot

abbrev pub occ_of : Spot → Occ
occ_of (Inh k i) = inherited k i
occ_of (Out k j) = given k j

-- a step between spots
abbrev pub Move : Rule → (ℕ → ℕ → ℕ → Type 0) → Spot → Spot → Type 0
Move r rel o u = Edge r rel (occ_of o) (occ_of u)

pub moves : (r : Rule) (rel : ℕ → ℕ → ℕ → Type 0) {o u : Spot} → Plus (Move r rel) o u → Plus (Edge r rel) (occ_of o) (occ_of u)
moves r rel (step e) = step e
moves r rel (more e w) = more e (moves r rel w)
