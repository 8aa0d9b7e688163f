use Rattle.std.proofs.Common.{◌≡◌, ◌++◌, take, map}
use Rattle.std.specs.List.{flat_map}
use Rattle.aw_store.specs.EquationView.{equation_of}
use Rattle.aw_msg.specs.Spelling.{spelled_equation}
use Rattle.aw_msg.specs.MessageRanges.{LoadSized}
use Rattle.aw_msg.proofs.writing.add_each_equation.Given as goal

abbrev pub invariant-loop-equation : goal.invariant-loop-equation
invariant-loop-equation l = record {
  added : l.text ≡ l.initial.text ++ flat_map (λ e. spelled_equation (equation_of e)) (take l.equation-index l.equations);
  sized : LoadSized (map equation_of (take l.equation-index l.equations));
}
