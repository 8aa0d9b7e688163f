use Rattle.std.proofs.Common.{◌≡◌, ℕ, ◌<◌, Some, slice_get, slice_index}
use Rattle.aw_grammar.specs.declared.rule.Child.{Child}
use Rattle.aw_iograph.proofs.visits.has_grown_child.Given as goal

abbrev pub invariant-loop-child : goal.invariant-loop-child
invariant-loop-child l = (n : ℕ) → n < l.child-index → (c : Child) → slice_get l.children n ≡ Some c → slice_index l.sorts c.sort < l.visit
