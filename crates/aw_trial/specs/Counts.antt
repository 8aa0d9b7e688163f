-- What is counted of a trial.
use Rattle.std.specs.Prelude.{ℕ, false, List, [], length}
use Rattle.aw_term.specs.Rules.{Grammar}
use Rattle.aw_term.specs.Configs.{Config}
use Rattle.aw_term.specs.Choices.{undivided, or_same}
use Rattle.aw_choice.specs.Events.{Event}
use Rattle.aw_term.specs.Artifacts.{Words, artifact_text}
use Rattle.aw_law_sites.specs.Worlds.{World, empty_world}
use Rattle.aw_law_sites.specs.Bounds.{settled}
use Rattle.aw_trial.specs.Specification.{trial_grammar, trial_words}
use Rattle.aw_trial.specs.Turns.{State, turns}
use Rattle.aw_trial.specs.declared.tally.Tally.{Tally}
use Rattle.aw_trial.specs.declared.summary.Summary.{Summary}

-- nothing is counted yet, and numbers are drawn from n
abbrev pub tally_from : ℕ → Tally
tally_from n = record { seed = n; starts = 0; choices = 0; taken = 0; repeats = 0 }

-- no site holds anything, and messages carry no loads
abbrev pub start_from : Grammar → ℕ → State
start_from g n = record { world = empty_world g false; tally = tally_from n; events = [] }

-- the configuration of the choices that were taken
abbrev pub config_of : Grammar → World → Config
config_of g v = or_same [] (undivided g [] v.taken)

-- the counts of a tally, with the messages of a world, and its artifact lines and their bytes
abbrev pub counted : Words → Grammar → Tally → World → Summary
counted w g t v = record {
  starts = t.starts;
  choices = t.choices;
  taken = t.taken;
  messages = length v.messages;
  repeats = t.repeats;
  artifacts = length (config_of g v);
  bytes = length (artifact_text w (config_of g v));
}

-- the counts after so many turns and a settling
abbrev pub counted_after : Words → Grammar → State → Summary
counted_after w g s = counted w g s.tally (settled g s.world)

-- the counts after so many turns more in a world, where these events led to it
abbrev pub counted_from : Words → Grammar → ℕ → Tally → World → List Event → Summary
counted_from w g count t v es = counted_after w g (turns count g (record { world = v; tally = t; events = es }))

-- so many turns in the world of a grammar, drawn from n, and everything settled
abbrev pub trial_in : Words → Grammar → ℕ → ℕ → Summary
trial_in w g count n = counted_after w g (turns count g (start_from g n))

-- a trial: 2,000 turns in the world of four roles
abbrev pub trial : ℕ → Summary
trial n = trial_in trial_words trial_grammar 2000 n
