use Rattle.std.proofs.Common.{◌≡◌, drop}
use Rattle.aw_site.specs.Sendable.{short_refs}
use Rattle.aw_site.proofs.short.refs_are_short.Given as goal

abbrev pub invariant-loop-r : goal.invariant-loop-r
invariant-loop-r l = short_refs (drop l.r-index l.refs) ≡ short_refs l.refs
