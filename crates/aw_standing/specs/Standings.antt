-- How a rule stands at a node, its arguments aside, where references are told by slots.
use Rattle.std.specs.Prelude.{Bool, false, List, Option, None, Some, slice_get, if◌then◌else◌}
use Rattle.aw_term.specs.Names.{Node, Ref}
use Rattle.aw_term.specs.Rules.{Rule}
use Rattle.aw_term.specs.Choices.{Answer, WaitsFor, Mismatch, CircleAt, TooDeep, after_guard}
use Rattle.aw_term.specs.Runs.{refusal_of}
use Rattle.aw_choice.specs.ChoiceView.{place_of}
use Rattle.aw_store.specs.Equations.{Map}
use Rattle.aw_store.specs.NamedRefs.{is_named}
use Rattle.aw_apply.specs.Guard.{guard_all}
use Rattle.aw_apply.specs.Named.{as_named}
use Rattle.aw_apply.specs.declared.guard.Guard.{Guard}
use Rattle.aw_apply.specs.declared.guard.Guard.TheVariants as guard
use Rattle.aw_standing.specs.declared.record.Stands.{Stands}
use Rattle.aw_standing.specs.declared.record.Stands.TheVariants as stands

-- the refusal that is kept, where each slot stands for what it names; none where the rule is ready
abbrev pub kept_refusal : List Ref → Stands → Option (Answer (Option Ref))
kept_refusal names stands.Ready = None
kept_refusal names (stands.Waits slot) = Some (WaitsFor (slice_get names slot))
kept_refusal names (stands.Differs place) = Some (Mismatch (place_of place))
kept_refusal names (stands.Circle slot) = Some (CircleAt (slice_get names slot))
kept_refusal names stands.TooDeep = Some TooDeep

-- the refusal of a rule at a node that inherits these references
abbrev pub told_refusal : Map → Node → List Ref → Rule → Option (Answer (Option Ref))
told_refusal k n rs rule = refusal_of (after_guard n rule (as_named (guard_all k 1 rule.patterns rs)))

-- this is one of these references
abbrev pub is_one_of : List Ref → Option Ref → Bool
is_one_of late None = false
is_one_of late (Some r) = is_named late r

-- the rule waits for one of these references
abbrev pub waits_for_one : List Ref → List Ref → Stands → Bool
waits_for_one names late (stands.Waits slot) = is_one_of late (slice_get names slot)
waits_for_one names late _ = false

-- how a rule stands whose guard gives this, and at which a child's name would be too long or not
abbrev pub guard_stands : Bool → Guard → Stands
guard_stands deep (guard.Yes bound) = if deep then stands.TooDeep else stands.Ready
guard_stands deep (guard.Waits slot) = stands.Waits slot
guard_stands deep (guard.Differs place) = stands.Differs place
guard_stands deep (guard.Circle slot) = stands.Circle slot
