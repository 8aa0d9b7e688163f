-- What a trial leads to.
use Rattle.std.specs.Prelude.{ℕ, List, nat_lt, if◌then◌else◌}
use Rattle.aw_out.specs.declared.report.TheConstants.{OUTPUT_LIMIT}
use Rattle.aw_trial.specs.Counts.{trial}
use Rattle.aw_trial.specs.Summaries.{summary_text}
use Rattle.aw_front.specs.Output.{Output, Writes, PastOutputLimit}

-- the text of its summary
unfoldable pub trial_text : ℕ → List ℕ
trial_text number = summary_text number (trial number)

-- its summary, unless its artifact lines would be too long to be written
unfoldable pub trial_output : ℕ → Output
trial_output number = if nat_lt OUTPUT_LIMIT (trial number).bytes then PastOutputLimit else Writes (trial_text number)
