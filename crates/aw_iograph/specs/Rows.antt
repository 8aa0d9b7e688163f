-- Rows of bits: at each place of a rule, which inherited values reach it.
use Rattle.std.specs.Prelude.{◌≡◌, ℕ, ◌+◌, ◌*◌, ◌-◌, ◌^◌, ◌/◌, ◌%◌, ◌<◌, ◌≤◌, Bool, true, false, List, [], ◌∷◌, ◌⊎◌, Option, Some, None, length, slice_index}
use Rattle.std.specs.Int.{bit_at}
use Rattle.aw_term.specs.Rules.{Rule}
use Rattle.aw_iograph.specs.declared.occ.Occ.{Occ}
use Rattle.aw_iograph.specs.declared.rows.Arc.{Arc}
use Rattle.aw_iograph.specs.Graphs.{Plus}
use Rattle.aw_iograph.specs.Growth.{Marked}
use Rattle.aw_iograph.specs.Occurrences.{inherited, IsPlace, place_of}
use Rattle.aw_iograph.specs.Dependence.{Edge}

-- a row has bit n
abbrev pub HasBit : ℕ → ℕ → Type 0
HasBit row n = bit_at row n ≡ 1

-- the row of place v has bit n
abbrev pub IsIn : List ℕ → ℕ → ℕ → Type 0
IsIn rows v n = HasBit (slice_index rows v) n

-- the bit of inherited value i of child k, or of the left side where k is 0
abbrev pub bit_of : ℕ → ℕ → ℕ
bit_of k i = k * 8 + (i - 1)

-- the inherited value that has bit n
abbrev pub bit_value : ℕ → Occ
bit_value n = inherited (n / 8) (n % 8 + 1)

-- at place v stands the inherited value that has bit n
abbrev pub IsOwn : ℕ → ℕ → Type 0
IsOwn v n = (n < 72) × (v ≡ place_of (bit_value n))

-- by how much rows of 128 bits can still grow
abbrev pub room : List ℕ → ℕ
room [] = 0
room (row ∷ rows) = (2 ^ 128 - 1 - row) + room rows

-- an arc of a kind
abbrev pub ArrowOf : (Arc → Type 0) → ℕ → ℕ → Type 0
ArrowOf P a b = P (record { from = a; to = b })

-- each bit is of an inherited value that reaches the place over arcs of a kind
abbrev pub AreLed : (Arc → Type 0) → List ℕ → Type 0
AreLed P rows = (v n : ℕ) → IsIn rows v n → Plus (ArrowOf P) (place_of (bit_value n)) v

-- a place hands on its own bit and those in its row
abbrev pub IsHandedOn : List ℕ → ℕ → ℕ → Type 0
IsHandedOn rows v n = IsOwn v n ⊎ IsIn rows v n

-- what the place hands on where an arc begins is in the row where it ends
abbrev pub IsJoined : List ℕ → Arc → Type 0
IsJoined rows arc = (n : ℕ) → IsHandedOn rows arc.from n → IsIn rows arc.to n

-- Rows were joined over the arcs of a kind, and the rows that were read are marked.
-- No row lost a bit, and each bit that a row gained was handed on over such arcs.
-- Where it is not to be done again no row grew that had been read, so the arcs before and those of the kind are joined; else there is less room.
pub record Joins (P : Arc → Type 0) (old new : List ℕ) (before after : List Bool) (again : Bool) : Type 0 where
  pub size : length new ≡ length old
  pub places : length after ≡ length before
  pub kept : (v n : ℕ) → IsIn old v n → IsIn new v n
  pub read : (v : ℕ) → Marked before v → Marked after v
  pub most : room new ≤ room old
  pub less : again ≡ true → room new < room old
  pub still : again ≡ false → (a : Arc) → IsJoined old a → Marked before a.from → IsJoined new a
  pub joined : again ≡ false → (a : Arc) → P a → IsJoined new a × Marked after a.from
  pub only : (v n : ℕ) → IsIn new v n → IsIn old v n ⊎ ((u : ℕ) × IsHandedOn old u n × Plus (ArrowOf P) u v)

-- where an inherited value reaches an occurrence of the rule, its bit is in the row there
abbrev pub HasEachWalk : Rule → (ℕ → ℕ → ℕ → Type 0) → List ℕ → Type 0
HasEachWalk r rel rows = (k i : ℕ) (u : Occ) → Plus (Edge r rel) (inherited k i) u → IsPlace (inherited k i) × IsPlace u × IsIn rows (place_of u) (bit_of k i)

-- and only there
abbrev pub HasOnlyWalks : Rule → (ℕ → ℕ → ℕ → Type 0) → List ℕ → Type 0
HasOnlyWalks r rel rows = (k i : ℕ) (u : Occ) → IsPlace (inherited k i) → IsPlace u → IsIn rows (place_of u) (bit_of k i) → Plus (Edge r rel) (inherited k i) u

-- the inherited value that has bit n is in the row of its own place
abbrev pub IsInOwnRow : List ℕ → ℕ → Type 0
IsInOwnRow rows n = IsIn rows (place_of (bit_value n)) n

-- the first inherited value, of 72, that is in the row of its own place, or none
abbrev pub FirstInOwnRow : List ℕ → Option Occ → Type 0
FirstInOwnRow rows None = (n : ℕ) → n < 72 → IsInOwnRow rows n → ⊥
FirstInOwnRow rows (Some o) = (n : ℕ) × (n < 72) × (o ≡ bit_value n) × IsInOwnRow rows n × ((m : ℕ) → m < n → IsInOwnRow rows m → ⊥)
