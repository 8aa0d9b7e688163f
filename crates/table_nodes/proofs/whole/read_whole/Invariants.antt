use Rattle.std.proofs.Common.{◌≡◌, true}
use Rattle.table_nodes.proofs.whole.read_whole.Given as goal

abbrev pub invariant-loop : goal.invariant-loop
invariant-loop g l = g.W.Wire.is_open l.wire ≡ true
