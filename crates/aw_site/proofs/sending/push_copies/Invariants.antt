use Rattle.std.proofs.Common.{◌≡◌, ◌++◌, take}
use Rattle.aw_site.proofs.sending.push_copies.Given as goal

abbrev pub invariant-loop-m : goal.invariant-loop-m
invariant-loop-m l = l.copy.items ≡ l.fn.copy.items ++ take l.m-index l.messages
