-- What holds of trials, apart from any code.
use Rattle.std.specs.Prelude.{◌≡◌, ℕ, false, true, List, [], ◌∷◌, ◌++◌, Some, slice_get}
use Rattle.aw_term.specs.Rules.{Grammar}
use Rattle.aw_term.specs.Artifacts.{Words}
use Rattle.aw_term.specs.Runs.{artifacts}
use Rattle.aw_term.specs.WellFormed.{Each}
use Rattle.aw_choice.specs.Events.{Event, Settles}
use Rattle.aw_base.specs.NodeNames.{is_start}
use Rattle.aw_law_sites.specs.Worlds.{Move, MayCome, IsNew, empty_world, world_after, undelivered, deliver, settle}
use Rattle.aw_law_sites.specs.Bounds.{settled}
use Rattle.aw_law_sites.specs.Outputs.{MayStand, after_events, all_lines, output_of}
use Rattle.aw_trial.specs.Turns.{State, turns}
use Rattle.aw_trial.specs.Counts.{start_from, config_of}

-- without loads, whatever message settling delivers is new
abbrev pub SettlesFresh : Grammar → Type 0
SettlesFresh g = (es : List Move) → Each (MayCome g) es → (n k : ℕ) →
    undelivered (settle n g (world_after g false es)) ≡ Some k → (deliver g (settle n g (world_after g false es)) k).reply ≡ IsNew

-- the state after so many turns that are drawn from n
abbrev pub after_turns : Grammar → ℕ → ℕ → State
after_turns g count n = turns count g (start_from g n)

-- the events of these turns, and the last settling
abbrev pub schedule_of : Grammar → ℕ → ℕ → List Event
schedule_of g count n = (after_turns g count n).events ++ Settles ∷ []

-- They may stand in a schedule. They lead to the world whose artifacts are counted, and what is written for them ends in these artifacts.
pub record IsReplayed (w : Words) (g : Grammar) (count n : ℕ) : Type 0 where
  pub stand : Each (MayStand g) (schedule_of g count n)
  pub world : after_events g (empty_world g false) (schedule_of g count n) ≡ settled g (after_turns g count n).world
  pub output : output_of w g false (schedule_of g count n)
      ≡ all_lines w g (empty_world g false) (schedule_of g count n) ++ artifacts w (config_of g (settled g (after_turns g count n).world))

-- so it is wherever cases start with the first sort
abbrev pub AreReplayed : Words → Grammar → Type 0
AreReplayed w g = is_start (slice_get g.sorts 0) ≡ true → (count n : ℕ) → IsReplayed w g count n
