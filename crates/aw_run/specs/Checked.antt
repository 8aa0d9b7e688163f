-- What is told of an accepted specification: its dependences, its roles checked apart, and waiting.
use Rattle.std.specs.Prelude.{◌≡◌, ℕ, Bool, true, false, List, [], ◌∷◌, ◌++◌}
use Rattle.aw_term.specs.Rules.{Grammar}
use Rattle.aw_term.specs.Artifacts.{Words}
use Rattle.aw_base.specs.declared.declared.Triple.{Triple}
use Rattle.aw_check_text.specs.Told.{TellsAccepted}
use Rattle.aw_check_text.specs.ApartTold.{TellsRoles, TellsWaiting}

-- the roles checked apart, where a dependence is declared, and else nothing
abbrev pub TellsApart : (depends : List Triple) → (offers : List ℕ) → Words → Grammar → List ℕ → Type 0
TellsApart [] offers w g text = text ≡ []
TellsApart (d ∷ ds) offers w g text = TellsRoles offers (d ∷ ds) w g text

-- waiting, where that is asked for, and else nothing
abbrev pub TellsFree : (free : Bool) → Words → Grammar → List ℕ → Type 0
TellsFree false w g text = text ≡ []
TellsFree true w g text = TellsWaiting w g text

-- `accepted` and each dependence, then the roles checked apart, and last waiting
abbrev pub TellsChecked : (depends : List Triple) → (offers : List ℕ) → (free : Bool) → Words → Grammar → List ℕ → Type 0
TellsChecked depends offers free w g text =
    (pairs : List ℕ) × (roles : List ℕ) × (waits : List ℕ) × TellsAccepted w g pairs × TellsApart depends offers w g roles × TellsFree free w g waits × (text ≡ pairs ++ (roles ++ waits))
