use Rattle.std.proofs.Common.{◌≡◌, ◌+◌, length, take}
use Rattle.std.specs.List.{flat_map}
use Rattle.aw_store.specs.EquationView.{equation_of}
use Rattle.aw_msg.specs.Spelling.{spelled_equation}
use Rattle.aw_journal.specs.Lengths.{capped}
use Rattle.aw_journal.proofs.lengths.equations_len.Given as goal

abbrev pub invariant-loop-equation : goal.invariant-loop-equation
invariant-loop-equation l = l.count ≡ capped (0 + length (flat_map (λ e. spelled_equation (equation_of e)) (take l.equation-index l.equations)))
