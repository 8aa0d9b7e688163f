use Rattle.std.proofs.Common.{◌≡◌, is_some, option_copied}
use Rattle.aw_spelling.specs.Spelling.{steps_of, parts_behind}
use Rattle.aw_spelling.proofs.Cuts.{bytes_left}
use Rattle.aw_spelling.proofs.node_name.are_steps.Given as goal

abbrev pub invariant-loop-rest : goal.invariant-loop-rest
invariant-loop-rest l = is_some (steps_of (parts_behind (option_copied l.rest))) ≡ is_some (steps_of (parts_behind (option_copied l.fn.steps)))

abbrev pub decreases-loop-rest : goal.decreases-loop-rest
decreases-loop-rest l = bytes_left (option_copied l.rest)
