use Rattle.std.proofs.Common.{◌≡◌, ◌+◌, ◌-◌, ◌≤◌, length, drop}
use Rattle.std.specs.List.{prefix_len}
use Rattle.aw_spelling.specs.Spelling.{stands_for_itself}
use Rattle.aw_spelling.proofs.quote.run_len.Given as goal

abbrev pub invariant-loop-len : goal.invariant-loop-len
invariant-loop-len l =
    record {
      within : l.len ≤ length l.bytes;
      rest : l.len + prefix_len stands_for_itself (drop l.len l.bytes) ≡ prefix_len stands_for_itself l.bytes;
    }

abbrev pub decreases-loop-len : goal.decreases-loop-len
decreases-loop-len l = length l.bytes - l.len
