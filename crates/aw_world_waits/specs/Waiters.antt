-- What the items of a worklist wait for, and which nodes are developed.
use Rattle.std.specs.Prelude.{Bool, true, false, ◌||◌, List, [], ◌∷◌, Option, Some, None, filter_map, if◌then◌else◌}
use Rattle.aw_term.specs.Names.{Node, Slot, Result, Part, Ref, node_eq}
use Rattle.aw_term.specs.Configs.{State, Pending, Done}
use Rattle.aw_term.specs.Choices.{Choice, Start, Develop, Answer, WaitsFor}
use Rattle.aw_term.specs.Artifacts.{Item}
use Rattle.aw_term.specs.Held.{Held}

-- the node of a result; a part is none
abbrev pub of_result : Node → Slot → Option Node
of_result n (Result j) = Some n
of_result n (Part k) = None

-- the node for a result of which a rule waits, where it is refused so
abbrev pub waits_on : Option (Answer Ref) → Option Node
waits_on (Some (WaitsFor r)) = of_result r.node r.slot
waits_on _ = None

-- the nodes for results of which some items wait, item by item
abbrev pub waited_in : List Item → List Node
waited_in items = filter_map (λ i. waits_on i.refusal) items

-- the choice develops the node
abbrev pub develops : Node → Choice → Bool
develops n (Start s k) = false
develops n (Develop m r args) = node_eq n m

-- one of the choices develops the node
abbrev pub is_developed : List Choice → Node → Bool
is_developed [] n = false
is_developed (c ∷ cs) n = develops n c || is_developed cs n

-- a choice was taken
abbrev pub is_done : State → Bool
is_done Pending = false
is_done (Done r args) = true

-- the node is held, and developed
abbrev pub holds_done : Node → List Held → Bool
holds_done n [] = false
holds_done n (h ∷ hs) = if node_eq n h.node then is_done h.state else holds_done n hs
