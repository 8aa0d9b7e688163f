use Rattle.std.proofs.Common.{◌≡◌, ◌≤◌, ◌<◌, ◌+◌, ℕ, List, length, ◌-◌}
use Rattle.aw_law_sites.specs.Worlds.{count_set}
use Rattle.aw_world.specs.Marks.{marks, leading}
use Rattle.aw_msg.specs.declared.message.Message.{Message}
use Rattle.aw_world.proofs.marks.pad.Given as goal

abbrev pub invariant-loop-flags : goal.invariant-loop-flags
invariant-loop-flags l = record {
  marks : (ms : List Message) → marks ms l.flags.items ≡ marks ms l.initial.flags.items;
  leads : leading l.flags.items ≡ leading l.initial.flags.items;
  counts : count_set l.flags.items ≡ count_set l.initial.flags.items;
  most : (n : ℕ) → length l.initial.flags.items ≤ n → l.at < n → length l.flags.items ≤ n;
}

abbrev pub decreases-loop-flags : goal.decreases-loop-flags
decreases-loop-flags l = l.at + 1 - length l.flags.items
