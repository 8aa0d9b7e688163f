use Rattle.std.proofs.Common.{◌≡◌, ◌==◌, ◌+◌, ◌-◌, ◌≤◌, length, drop}
use Rattle.std.specs.List.{prefix_len}
use Rattle.aw_spec.proofs.read.leading_feeds.Given as goal

abbrev pub invariant-loop-count : goal.invariant-loop-count
invariant-loop-count l =
    record {
      within : l.count ≤ length l.text;
      rest : l.count + prefix_len (λ b. b == 10) (drop l.count l.text) ≡ prefix_len (λ b. b == 10) l.text;
    }

abbrev pub decreases-loop-count : goal.decreases-loop-count
decreases-loop-count l = length l.text - l.count
