-- What the sites of a single role tell.
use Rattle.std.specs.Prelude.{◌≡◌, true, false, List, map}
use Rattle.aw_term.specs.Rules.{Grammar}
use Rattle.aw_term.specs.Choices.{Choice}
use Rattle.aw_term.specs.Artifacts.{Words}
use Rattle.aw_term.specs.Runs.{plain_text}
use Rattle.aw_term.specs.WellFormed.{Each}
use Rattle.aw_choice.specs.Events.{Chooses}
use Rattle.aw_base.specs.ChoiceFits.{choice_ok}
use Rattle.aw_law_sites.specs.Outputs.{output_of}
use Rattle.aw_replay.specs.United.{united, united_words}

-- where all sorts are at one role, the sites tell of choices what the undivided run tells of them
abbrev pub UnitedTellsUndivided : Words → Grammar → Type 0
UnitedTellsUndivided w g = (cs : List Choice) → Each (λ c. choice_ok g c ≡ true) cs → output_of (united_words w) (united g) false (map Chooses cs) ≡ plain_text w g cs
