use Rattle.std.proofs.Common.{◌≡◌, drop}
use Rattle.aw_site.specs.Sendable.{all_short}
use Rattle.aw_site.proofs.short.messages_are_short.Given as goal

abbrev pub invariant-loop-m : goal.invariant-loop-m
invariant-loop-m l = all_short (drop l.m-index l.messages) ≡ all_short l.messages
