use Rattle.std.proofs.Common.{◌≡◌, take}
use Rattle.aw_space.proofs.outcome.copy_children.Given as goal

abbrev pub invariant-loop-child : goal.invariant-loop-child
invariant-loop-child l = l.copies.items ≡ take l.child-index l.children
