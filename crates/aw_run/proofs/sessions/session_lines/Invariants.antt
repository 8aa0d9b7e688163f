use Rattle.std.proofs.Common.{◌≡◌, ◌+◌, ◌++◌, drop}
use Rattle.aw_run.specs.Serving.{session_lines}
use Rattle.aw_run.proofs.sessions.session_lines.Given as goal

-- the lines so far, and those that are left
abbrev pub invariant-loop-at : goal.invariant-loop-at
invariant-loop-at l = l.text ++ session_lines (l.at + 1) (drop l.at l.logs) ≡ session_lines 1 l.logs
