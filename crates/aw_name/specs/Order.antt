use Rattle.std.specs.Ordering.{nat_cmp, ordering_then}
use Rattle.std.specs.Cmp.Lexicographic.{slice_cmp}
use Rattle.std.specs.declared.cmp.Ordering.{Ordering}
use Rattle.std.specs.declared.cmp.Ordering.TheVariants.{Less, Greater}
pub use Rattle.aw_name.specs.Steps.{step_cmp}
use Rattle.aw_name.specs.declared.node.Node.{Node}
use Rattle.aw_name.specs.declared.node.Slot.{Slot}
use Rattle.aw_name.specs.declared.node.Slot.TheVariants.{Result, Part}
use Rattle.aw_name.specs.declared.node.Ref.{Ref}

-- by start sort, then by case, then by steps; a proper prefix comes first
abbrev pub node_cmp : Node → Node → Ordering
node_cmp a b = ordering_then (nat_cmp a.start b.start) (ordering_then (nat_cmp a.case b.case) (slice_cmp step_cmp a.steps b.steps))

-- results before parts, and then by number
abbrev pub slot_cmp : Slot → Slot → Ordering
slot_cmp (Result i) (Result j) = nat_cmp i j
slot_cmp (Result i) (Part k) = Less
slot_cmp (Part k) (Result j) = Greater
slot_cmp (Part k) (Part l) = nat_cmp k l

-- by node, and then by slot
abbrev pub ref_cmp : Ref → Ref → Ordering
ref_cmp a b = ordering_then (node_cmp a.node b.node) (slot_cmp a.slot b.slot)
