-- How the names of nodes and references are spelled in bytes, and how they are read.
use Rattle.std.specs.Prelude.{ℕ, zero, suc, Bool, ◌&&◌, nat_le, List, [], ◌∷◌, ◌++◌, length, Err}
use Rattle.std.specs.List.{flat_map}
use Rattle.std.specs.Int.{w16, w64, to_be_bytes}
use Rattle.aw_term.specs.Names.{Step, Node, Slot, Result, Part, Ref}
use Rattle.aw_term.specs.Limits.{most_children, most_results, most_node_parts, most_references}
use Rattle.aw_name.specs.Limits.{most_steps}
use Rattle.aw_codec.specs.Reading.{Short, Bad, Reader, byte, number, such_that, both, seen, counted}

-- ---- the spelling

-- the rule in two bytes, and the child
abbrev pub spelled_step : Step → List ℕ
spelled_step s = to_be_bytes w16 s.rule ++ s.child ∷ []

-- the start sort in two bytes, the case in eight, the number of steps, and the steps
abbrev pub spelled_node : Node → List ℕ
spelled_node n = to_be_bytes w16 n.start ++ (to_be_bytes w64 n.case ++ (length n.steps ∷ flat_map spelled_step n.steps))

-- 0 for a result and 1 for a part, and its number in two bytes
abbrev pub spelled_slot : Slot → List ℕ
spelled_slot (Result j) = 0 ∷ to_be_bytes w16 j
spelled_slot (Part k) = 1 ∷ to_be_bytes w16 k

-- the node, and then the slot
abbrev pub spelled_ref : Ref → List ℕ
spelled_ref r = spelled_node r.node ++ spelled_slot r.slot

-- how many there are, and each of them
abbrev pub spelled_refs : List Ref → List ℕ
spelled_refs rs = length rs ∷ flat_map spelled_ref rs

-- ---- what is in range

-- from 1 to most
abbrev pub is_from_1_to : ℕ → ℕ → Bool
is_from_1_to most n = nat_le 1 n && nat_le n most

-- from 0 to most
abbrev pub is_at_most : ℕ → ℕ → Bool
is_at_most most n = nat_le n most

-- ---- reading

-- the rule, and a child
unfoldable pub step : Reader Step
step = seen (λ s. record { rule = s.0; child = s.1 }) (both (number w16) (such_that (is_from_1_to most_children) byte))

-- few steps
unfoldable pub trail : Reader (List Step)
trail = counted (such_that (is_at_most most_steps) byte) step

-- the start sort, the case and the steps
unfoldable pub node : Reader Node
node = seen (λ n. record { start = n.0; case = n.1.0; steps = n.1.1 }) (both (number w16) (both (number w64) trail))

-- 0 and a result, or 1 and a part
unfoldable pub slot : Reader Slot
slot [] = Err Short
slot (zero ∷ rest) = seen Result (such_that (is_from_1_to most_results) (number w16)) rest
slot (suc zero ∷ rest) = seen Part (such_that (is_from_1_to most_node_parts) (number w16)) rest
slot (suc (suc b) ∷ rest) = Err (Bad (suc (length rest)))

-- the node, and then the slot
unfoldable pub reference : Reader Ref
reference = seen (λ r. record { node = r.0; slot = r.1 }) (both node slot)

-- references behind their number
unfoldable pub references : Reader (List Ref)
references = counted (such_that (is_at_most most_references) byte) reference
