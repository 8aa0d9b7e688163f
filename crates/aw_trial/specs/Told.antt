-- What is answered in the end.
use Rattle.std.specs.Prelude.{◌≡◌, ℕ, ◌<◌, ◌≤◌, List, [], Some, Ok, Err, length}
use Rattle.std.specs.declared.result.Result.{Result}
use Rattle.aw_out.specs.declared.error.PrintFault.{PrintFault}
use Rattle.aw_out.specs.declared.error.PrintFault.TheVariants.{TooLarge, NoMemory}
use Rattle.aw_term.specs.Rules.{Grammar}
use Rattle.aw_term.specs.Configs.{Config}
use Rattle.aw_term.specs.Choices.{Choice, undivided}
use Rattle.aw_term.specs.Artifacts.{Words, artifact_text}
use Rattle.aw_trial.specs.declared.summary.Summary.{Summary}

-- the most bytes of an output
abbrev pub most_bytes : ℕ
most_bytes = 67108864

-- these are the number of rows and that of the bytes of their lines; or the lines are too long
abbrev pub LinesOf : ℕ → ℕ → Result (ℕ × ℕ) PrintFault → Type 0
LinesOf rows bytes (Ok r) = (r.0 ≡ rows) × (r.1 ≡ bytes) × (bytes ≤ most_bytes)
LinesOf rows bytes (Err TooLarge) = most_bytes < bytes
LinesOf rows bytes (Err NoMemory) = Unit {0}

-- of the artifacts of these choices
abbrev pub CountsLines : Words → Grammar → List Choice → Result (ℕ × ℕ) PrintFault → Type 0
CountsLines w g cs result = (c : Config) → undivided g [] cs ≡ Some c → LinesOf (length c) (length (artifact_text w c)) result

-- these counts are told; or the lines are too long
abbrev pub Tells : Summary → Result Summary PrintFault → Type 0
Tells s (Ok r) = (r ≡ s) × (s.bytes ≤ most_bytes)
Tells s (Err TooLarge) = most_bytes < s.bytes
Tells s (Err NoMemory) = Unit {0}
