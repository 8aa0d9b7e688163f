-- What is kept as items of a worklist, how a rule stands that is asked for, and how many items wait for a reference.
use Rattle.std.specs.Prelude.{◌≡◌, ℕ, Bool, false, List, Option, None, Some, count_by, map, option_map, slice_get}
use Rattle.aw_term.specs.Names.{Node, Ref}
use Rattle.aw_term.specs.Rules.{Rule, Grammar, sort_of}
use Rattle.aw_term.specs.Choices.{Answer, WaitsFor, Mismatch, CircleAt, TooDeep, after_guard}
use Rattle.aw_term.specs.Runs.{refusal_of as plain_refusal}
use Rattle.aw_term.specs.Artifacts.{Item}
use Rattle.aw_choice.specs.ChoiceView.{place_of, refusal_of}
use Rattle.aw_choice.specs.declared.choice.Standing.{Standing}
use Rattle.aw_store.specs.Refs.{ref_eq}
use Rattle.aw_store.specs.Equations.{Map}
use Rattle.aw_apply.specs.Guard.{guard_all}
use Rattle.aw_node_list.specs.declared.held.Held.{Held}
use Rattle.aw_node_list.specs.HeldView.{sort_or}
use Rattle.aw_standing.specs.declared.record.Stands.{Stands}
use Rattle.aw_standing.specs.declared.record.Stands.TheVariants as stands
use Rattle.aw_standing.specs.declared.record.Mark.{Mark}
use Rattle.aw_standing.specs.Records.{AreRising, mark_rule}

-- the refusal that is kept, by the references that the slots name
abbrev pub said_refusal : List Ref → Stands → Option (Answer Ref)
said_refusal names stands.Ready = None
said_refusal names (stands.Waits slot) = option_map WaitsFor (slice_get names slot)
said_refusal names (stands.Differs place) = Some (Mismatch (place_of place))
said_refusal names (stands.Circle slot) = option_map CircleAt (slice_get names slot)
said_refusal names stands.TooDeep = Some TooDeep

-- a mark as an item at its node
abbrev pub kept_item : List Ref → Node → Mark → Item
kept_item names n m = record { node = n; rule = m.rule; refusal = said_refusal names m.stands }

-- where these marks are in the order of their rules, the one of this rule says that it stands so
abbrev pub SayOf : List Ref → List Mark → ℕ → Standing → Type 0
SayOf names ms number s =
    AreRising (map mark_rule ms) → (j : ℕ) (m : Mark) → slice_get ms j ≡ Some m → m.rule ≡ number → refusal_of s ≡ said_refusal names m.stands

-- the rule stands so at a node that inherits these references
abbrev pub RuleStands : Map → Node → List Ref → Rule → Standing → Type 0
RuleStands k n rs rule s = refusal_of s ≡ plain_refusal (after_guard n rule (guard_all k 1 rule.patterns rs))

-- the rule with this number stands so at the node, where the node is open and of the rule's sort
abbrev pub StandsAt : Grammar → Map → Held → ℕ → Standing → Type 0
StandsAt g k h number s =
    (rule : Rule) → slice_get g.rules number ≡ Some rule → rule.sort ≡ sort_or (sort_of g h.node) → h.done ≡ None → RuleStands k h.node h.inherited rule s

-- the refusal is that this reference is missing
abbrev pub waits_on : Ref → Option (Answer Ref) → Bool
waits_on r (Some (WaitsFor q)) = ref_eq q r
waits_on r _ = false

-- how many items wait for this reference
abbrev pub waiting_on : Ref → List Item → ℕ
waiting_on r items = count_by (λ (i : Item). waits_on r i.refusal) items
