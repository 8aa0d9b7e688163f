use Rattle.std.proofs.Common.{◌≡◌, take}
use Rattle.aw_term.proofs.ground.GroundClone.+clone.Given as goal

abbrev pub invariant-loop-part : goal.invariant-loop-part
invariant-loop-part l = l.copies.items ≡ take l.part-index l.part-items
