use Rattle.std.proofs.Common.{◌≡◌, drop}
use Rattle.std.specs.List.{fold}
use Rattle.aw_name.specs.Digest.{digest_with, digest_of}
use Rattle.aw_name.proofs.digest.digest_of.Given as goal

abbrev pub invariant-loop-step : goal.invariant-loop-step
invariant-loop-step l = fold digest_with l.digest (drop l.step-index l.steps) ≡ digest_of l.steps
