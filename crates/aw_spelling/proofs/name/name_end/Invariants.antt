use Rattle.std.proofs.Common.{◌≡◌, ◌+◌, ◌-◌, ◌≤◌, length, drop}
use Rattle.std.specs.List.{prefix_len}
use Rattle.aw_spelling.specs.Spelling.{is_name_byte}
use Rattle.aw_spelling.proofs.name.name_end.Given as goal

abbrev pub invariant-loop-end : goal.invariant-loop-end
invariant-loop-end l =
    record {
      within : l.end ≤ length l.bytes;
      rest : l.end + prefix_len is_name_byte (drop l.end l.bytes) ≡ l.from + prefix_len is_name_byte (drop l.from l.bytes);
    }

abbrev pub decreases-loop-end : goal.decreases-loop-end
decreases-loop-end l = length l.bytes - l.end
