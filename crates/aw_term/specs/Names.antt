-- Names of nodes and references: whether two are one, which comes first, and what stands below a node.
use Rattle.std.specs.Prelude.{ℕ, Bool, true, false, ◌&&◌, ◌||◌, List, [], ◌∷◌, ◌++◌, nat_eq, nat_lt}
pub use Rattle.aw_name.specs.declared.node.Step.{Step}
pub use Rattle.aw_name.specs.declared.node.Node.{Node}
pub use Rattle.aw_name.specs.declared.node.Slot.{Slot}
pub use Rattle.aw_name.specs.declared.node.Slot.TheVariants.{Result, Part}
pub use Rattle.aw_name.specs.declared.node.Ref.{Ref}
pub use Rattle.aw_name.specs.SameNodes.{steps_eq, node_eq}
pub use Rattle.aw_name.specs.SameRefs.{slot_eq, ref_eq}

-- whether steps come before others: at the first that differs by rule and then by child, a proper prefix first
abbrev pub steps_lt : List Step → List Step → Bool
steps_lt [] [] = false
steps_lt [] (b ∷ ys) = true
steps_lt (a ∷ xs) [] = false
steps_lt (a ∷ xs) (b ∷ ys) = nat_lt a.rule b.rule || (nat_eq a.rule b.rule && (nat_lt a.child b.child || (nat_eq a.child b.child && steps_lt xs ys)))

-- whether a node comes before another: by start sort, case, and steps, a proper prefix first
abbrev pub node_lt : Node → Node → Bool
node_lt a b = nat_lt a.start b.start || (nat_eq a.start b.start && (nat_lt a.case b.case || (nat_eq a.case b.case && steps_lt a.steps b.steps)))

-- whether a value of a node comes before another: results before parts, and then by number
abbrev pub slot_lt : Slot → Slot → Bool
slot_lt (Result i) (Result j) = nat_lt i j
slot_lt (Result i) (Part j) = true
slot_lt (Part i) (Result j) = false
slot_lt (Part i) (Part j) = nat_lt i j

-- whether a reference comes before another: by node, and then by slot
abbrev pub ref_lt : Ref → Ref → Bool
ref_lt a b = node_lt a.node b.node || (node_eq a.node b.node && slot_lt a.slot b.slot)

-- the node that a case begins with
abbrev pub root : ℕ → ℕ → Node
root s k = record { start = s; case = k; steps = [] }

-- child k, from 1, of rule r at this node
abbrev pub below : Node → ℕ → ℕ → Node
below n r k = record n { steps = n.steps ++ record { rule = r; child = k } ∷ [] }

-- result j, from 1, of a node
abbrev pub result : Node → ℕ → Ref
result n j = record { node = n; slot = Result j }

-- part k, from 1, of a node
abbrev pub part : Node → ℕ → Ref
part n k = record { node = n; slot = Part k }
