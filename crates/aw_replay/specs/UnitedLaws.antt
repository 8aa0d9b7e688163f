-- What the grammar with one role has in common with the grammar that it was made from.
use Rattle.std.specs.Prelude.{◌≡◌, ◌↔◌, ℕ, List}
use Rattle.aw_term.specs.Rules.{Grammar}
use Rattle.aw_term.specs.Choices.{Choice}
use Rattle.aw_term.specs.Artifacts.{Words}
use Rattle.aw_term.specs.Runs.{plain_text}
use Rattle.aw_term.specs.WellFormed.{IsWellFormed}
use Rattle.aw_base.specs.ChoiceFits.{choice_ok}
use Rattle.aw_iograph.specs.Dependence.{IO, HasNoCircle}
use Rattle.aw_replay.specs.United.{united, united_words}

-- it is well formed
abbrev pub StaysWellFormed : Words → Grammar → Type 0
StaysWellFormed w g = IsWellFormed w g → IsWellFormed (united_words w) (united g)

-- the same choices may be asked of it
abbrev pub TakesSameChoices : Grammar → Type 0
TakesSameChoices g = (x : Choice) → choice_ok (united g) x ≡ choice_ok g x

-- the same results depend on the same inherited values
abbrev pub HasSameDependence : Grammar → Type 0
HasSameDependence g = (s i j : ℕ) → IO (united g) s i j ↔ IO g s i j

-- it has a circle where the other has one
abbrev pub HasSameCircles : Grammar → Type 0
HasSameCircles g = HasNoCircle (united g) (IO (united g)) ↔ HasNoCircle g (IO g)

-- the undivided run tells the same of the same choices
abbrev pub TellsTheSame : Words → Grammar → Type 0
TellsTheSame w g = (xs : List Choice) → plain_text (united_words w) (united g) xs ≡ plain_text w g xs
