use Rattle.std.proofs.Common.{◌≡◌, ◌++◌, take, codes, flat_map}
use Rattle.std.specs.Fmt.{decimal}
use Rattle.std.specs.Io.{StartsWith}
use Rattle.aw_base.proofs.texts.add_path.Given as goal

abbrev pub invariant-loop-step : goal.invariant-loop-step
invariant-loop-step l = record {
  added : l.text ≡ l.initial.text ++ flat_map (λ k. codes "." ++ decimal k) (take l.step-index l.steps);
  kept : StartsWith l.text l.initial.text;
}
