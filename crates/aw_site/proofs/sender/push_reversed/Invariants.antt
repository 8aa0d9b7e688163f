use Rattle.std.proofs.Common.{◌≡◌, ◌++◌, ◌-◌, length, drop, reverse}
use Rattle.aw_site.proofs.sender.push_reversed.Given as goal

abbrev pub invariant-loop-i : goal.invariant-loop-i
invariant-loop-i l = reverse l.stack.items ≡ drop (length l.refs - l.i) l.refs ++ reverse l.fn.stack.items
