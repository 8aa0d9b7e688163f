-- The joint configuration: all held nodes with the references that they inherited, and all equations.
use Rattle.std.specs.Prelude.{ℕ, List, [], ◌∷◌, ◌++◌, map, length, Option, Some, None, slice_get, nat_eq, if◌then◌else◌, option_and_then}
use Rattle.aw_term.specs.Names.{Node, Ref, root}
use Rattle.aw_term.specs.Rules.{Ground, Rule, Grammar}
use Rattle.aw_term.specs.Configs.{State, Pending, Done}
pub use Rattle.aw_term.specs.Held.{Held, insert_held, insert_all, held_of, mark}
use Rattle.aw_term.specs.Choices.{Choice, Start, Develop, Known, NotHere, Developed, NotItsRule, Arguments, Outcome, Refused, Starts, Takes, after_guard}
use Rattle.aw_store.specs.Equations.{Map}
use Rattle.aw_apply.specs.Guard.{guard_all}
use Rattle.aw_apply.specs.Made.{Call, Making, made}

-- the pending node of a new case
abbrev pub root_held : ℕ → ℕ → Held
root_held s k = record { node = root s k; sort = s; inherited = []; state = Pending }

-- the pending node of a child that was called
abbrev pub called_held : Call → Held
called_held c = record { node = c.node; sort = c.sort; inherited = c.inherited; state = Pending }

-- what a rule leads to at a node: the same order of refusals as over trees, with the guard over the equations
abbrev pub by_rule : Option Rule → Map → Node → List Ground → Held → Outcome Ref Ref
by_rule None k n args h = Refused NotItsRule
by_rule (Some rule) k n args h =
    if nat_eq rule.sort h.sort
    then (if nat_eq (length args) rule.params then after_guard n rule (guard_all k 1 rule.patterns h.inherited) else Refused Arguments)
    else Refused NotItsRule

-- what a rule leads to on a held node in this state: no rule is taken where one was before
abbrev pub by_state : State → Grammar → Map → Node → ℕ → List Ground → Held → Outcome Ref Ref
by_state (Done r a) g k n rule args h = Refused Developed
by_state Pending g k n rule args h = by_rule (slice_get g.rules rule) k n args h

-- what a rule leads to on a node, where this is the node as it is held, or none is held
abbrev pub by_held : Option Held → Grammar → Map → Node → ℕ → List Ground → Outcome Ref Ref
by_held None g k n rule args = Refused NotHere
by_held (Some h) g k n rule args = by_state h.state g k n rule args h

-- what the start of a case leads to, where this is the node with which it begins, or none is held
abbrev pub by_root : Option Held → Outcome Ref Ref
by_root None = Starts
by_root (Some h) = Refused Known

-- all held nodes in their order, and all equations
pub record Joint : Type 0 where
  pub held : List Held
  pub equations : Map

-- no node and no equation
abbrev pub empty_joint : Joint
empty_joint = record { held = []; equations = [] }

-- what a choice leads to over the references of these held nodes and these equations
abbrev pub outcome_in : List Held → Map → Grammar → Choice → Outcome Ref Ref
outcome_in held k g (Start s l) = by_root (held_of (root s l) held)
outcome_in held k g (Develop n r args) = by_held (held_of n held) g k n r args

-- what a choice leads to in a joint configuration
abbrev pub joint_outcome : Joint → Grammar → Choice → Outcome Ref Ref
joint_outcome w g c = outcome_in w.held w.equations g c

-- a taken rule: its children are added as pending nodes, its node is done, and its equations are added
abbrev pub add_made : Joint → Node → State → Making → Joint
add_made w n s m = record { held = insert_all (map called_held m.calls) (map (mark n s) w.held); equations = w.equations ++ m.equations }

-- the joint configuration after a choice with this outcome, where it was taken
abbrev pub joint_taken : Joint → Choice → Outcome Ref Ref → Option Joint
joint_taken w c (Refused a) = None
joint_taken w (Start s k) Starts = Some (record w { held = insert_held (root_held s k) w.held })
joint_taken w (Start s k) (Takes rule bound) = None
joint_taken w (Develop n r args) Starts = None
joint_taken w (Develop n r args) (Takes rule bound) = Some (add_made w n (Done r args) (made n r rule args bound))

-- after these choices, defined where each of them is taken in turn
abbrev pub joint_run : Grammar → Joint → List Choice → Option Joint
joint_run g w [] = Some w
joint_run g w (c ∷ cs) = option_and_then (λ v. joint_run g v cs) (joint_taken w c (joint_outcome w g c))
