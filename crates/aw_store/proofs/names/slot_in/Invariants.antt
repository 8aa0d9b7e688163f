use Rattle.std.proofs.Common.{◌≡◌, drop}
use Rattle.aw_store.specs.NamedRefs.{is_named}
use Rattle.aw_store.proofs.names.slot_in.Given as goal

abbrev pub invariant-loop-i : goal.invariant-loop-i
invariant-loop-i l = is_named (drop l.i l.names) l.r ≡ is_named l.names l.r
