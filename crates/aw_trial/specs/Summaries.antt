-- The text of a summary.
use Rattle.std.specs.Prelude.{ℕ, List, ◌++◌, codes}
use Rattle.std.specs.Fmt.{decimal}
use Rattle.aw_trial.specs.declared.summary.Summary.{Summary}

-- `starts 246`, where this is the name with its blank
abbrev pub line : List ℕ → ℕ → List ℕ
line name n = name ++ (decimal n ++ codes "\n")

-- a line for the number of the trial, and for each count one
abbrev pub summary_text : ℕ → Summary → List ℕ
summary_text n s =
    line (codes "trial ") n
    ++ (line (codes "starts ") s.starts
    ++ (line (codes "choices ") s.choices
    ++ (line (codes "taken ") s.taken
    ++ (line (codes "messages ") s.messages
    ++ (line (codes "repeats ") s.repeats
    ++ (line (codes "artifacts ") s.artifacts
    ++ line (codes "bytes ") s.bytes))))))
