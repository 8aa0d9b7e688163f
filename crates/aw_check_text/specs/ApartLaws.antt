-- What is told is determined by the specification.
use Rattle.std.specs.Prelude.{◌≡◌, ℕ, List}
use Rattle.aw_base.specs.declared.declared.Triple.{Triple}
use Rattle.aw_term.specs.Rules.{Grammar}
use Rattle.aw_term.specs.Artifacts.{Words}
use Rattle.aw_check_text.specs.ApartTold.{TellsRoles, TellsWaiting}

-- one thing is told of roles that are checked apart
abbrev pub RolesAreToldOnce : Type 0
RolesAreToldOnce = (offers : List ℕ) (declared : List Triple) (w : Words) (g : Grammar) (a b : List ℕ) → TellsRoles offers declared w g a → TellsRoles offers declared w g b → a ≡ b

-- one thing is told of waiting
abbrev pub WaitingIsToldOnce : Type 0
WaitingIsToldOnce = (w : Words) (g : Grammar) (a b : List ℕ) → TellsWaiting w g a → TellsWaiting w g b → a ≡ b
