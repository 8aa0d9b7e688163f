use Rattle.std.proofs.Common.{◌≡◌, ◌++◌, ◌-◌, replicate, None}
use Rattle.aw_iograph.proofs.graph.enter_params.Given as goal

abbrev pub invariant-loop : goal.invariant-loop
invariant-loop l = l.entries ++ replicate (l.count - l.counter) None ≡ l.initial.entries ++ replicate l.count None
