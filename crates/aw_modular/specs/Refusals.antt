-- Why a role does not say yes: a circle, or the least pair that it finds of what it offers and that is not declared.
use Rattle.std.specs.Prelude.{◌≡◌, ℕ, ◌<◌, ◌≤◌, true, List, Option, Some, None, ◌⊎◌, slice_get, length}
use Rattle.aw_base.specs.declared.declared.Triple.{Triple}
use Rattle.aw_term.specs.Trees.{Never}
use Rattle.aw_term.specs.Rules.{Sort, Grammar}
use Rattle.aw_term.specs.Choices.{gives_of}
use Rattle.aw_term.specs.WellFormed.{takes_of}
use Rattle.aw_iograph.specs.Dependence.{HasNoCircle}
use Rattle.aw_accept.specs.Circular.{LeastFaultOver}
use Rattle.aw_face.specs.Faces.{is_offered}
use Rattle.aw_modular.specs.Roles.{Declares, RoleRelation, Known}
use Rattle.aw_modular.specs.declared.refused.ModFault.{ModFault}
use Rattle.aw_modular.specs.declared.refused.ModFault.TheVariants.{Circular, Exceeds, NoMemory}

-- a sort that is declared, and an inherited value and a result that it has
pub record IsPosition (sorts : List Sort) (t : Triple) : Type 0 where
  pub sort : t.sort < length sorts
  pub inherited : 0 < t.i
  pub takes : t.i ≤ takes_of (slice_get sorts t.sort)
  pub result : 0 < t.j
  pub gives : t.j ≤ gives_of (slice_get sorts t.sort)

-- a pair of an offered sort that a role finds and that is not declared
abbrev pub IsExcess : (offers : List ℕ) (declared : List Triple) (role : ℕ) → Grammar → Triple → Type 0
IsExcess offers declared role g t =
    (is_offered t.sort offers ≡ true) × RoleRelation g role (Declares declared) t.sort t.i t.j × (Declares declared t.sort t.i t.j → Never)

-- one pair is another or comes before it: by sort, inherited value, result
abbrev pub IsUpToPair : Triple → Triple → Type 0
IsUpToPair t u = (t.sort < u.sort) ⊎ ((t.sort ≡ u.sort) × ((t.i < u.i) ⊎ ((t.i ≡ u.i) × (t.j ≤ u.j))))

-- the least pair with P, or none where no pair has it
abbrev pub LeastPair : (Triple → Type 0) → Option Triple → Type 0
LeastPair P None = (t : Triple) → P t → Never
LeastPair P (Some t) = P t × ((u : Triple) → P u → IsUpToPair t u)

-- A circle is told before an excess, and of each the least.
abbrev pub TellsRole : (offers : List ℕ) (declared : List Triple) (role : ℕ) → Grammar → ModFault → Type 0
TellsRole offers declared role g (Circular rule occ) = LeastFaultOver g (Known g role declared) (Some (record { rule = rule; occ = occ }))
TellsRole offers declared role g (Exceeds sort i j) =
    HasNoCircle g (Known g role declared) × LeastPair (IsExcess offers declared role g) (Some (record { sort = sort; i = i; j = j }))
TellsRole offers declared role g NoMemory = Unit {0}
