-- What the names of nodes and references write where they are hashed.
use Rattle.std.specs.Prelude.{ℕ, ◌+◌, ◌*◌, ◌++◌}
use Rattle.std.specs.Hash as fed
use Rattle.aw_name.specs.declared.node.Node.{Node}
use Rattle.aw_name.specs.declared.node.Slot.{Slot}
use Rattle.aw_name.specs.declared.node.Slot.TheVariants.{Result, Part}
use Rattle.aw_name.specs.declared.node.Ref.{Ref}
use Rattle.aw_name.specs.Digest.{digest_and, digest_of}

-- a slot as one number, of which no other slot has the same
abbrev pub slot_number : Slot → ℕ
slot_number (Result i) = i * 2
slot_number (Part k) = k * 2 + 1

-- what a node's name writes where it is hashed: its case, and then the digest of its steps with its start
abbrev pub node_writes : Node → fed.HashWrites
node_writes n = fed.u64 n.case ++ fed.u64 (digest_and (digest_of n.steps) n.start)

-- and what a reference writes: its case, and then the digest of its steps with its start and its slot
abbrev pub ref_writes : Ref → fed.HashWrites
ref_writes r = fed.u64 r.node.case ++ fed.u64 (digest_and (digest_of r.node.steps) (r.node.start * 131072 + slot_number r.slot))
