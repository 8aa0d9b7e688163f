-- Held nodes, which have a reference for each inherited value.
use Rattle.std.specs.Prelude.{ℕ, List, Option, if◌then◌else◌}
use Rattle.aw_term.specs.Names.{Node, Ref, node_eq}
use Rattle.aw_term.specs.Configs.{State}
use Rattle.aw_term.specs.ByNode.{insert_by, insert_all_by, find_by}

-- a node with a reference for each inherited value
pub record Held : Type 0 where
  pub node : Node
  pub sort : ℕ
  pub inherited : List Ref
  pub state : State

-- a node before the first that is after it
abbrev pub insert_held : Held → List Held → List Held
insert_held h ks = insert_by (λ (k : Held). k.node) h ks

-- each of some nodes in turn
abbrev pub insert_all : List Held → List Held → List Held
insert_all hs ks = insert_all_by (λ (k : Held). k.node) hs ks

-- the node, where it is held
abbrev pub held_of : Node → List Held → Option Held
held_of n hs = find_by (λ (h : Held). h.node) n hs

-- the node n takes this state, and each other stays
abbrev pub mark : Node → State → Held → Held
mark n s h = if node_eq n h.node then record h { state = s } else h
