-- What is kept of one node: its inherited references by slots, and how each rule of its sort stands.
use Rattle.std.specs.Prelude.{◌≡◌, ℕ, zero, suc, ◌<◌, Bool, false, true, All, List, [], ◌∷◌, map, length, Option, None, Some, slice_get, nat_eq, nat_lt, if◌then◌else◌}
use Rattle.aw_term.specs.Names.{Node, Ref}
use Rattle.aw_term.specs.Rules.{Rule, Grammar, sort_of}
use Rattle.aw_term.specs.Configs.{State, Pending, Done}
use Rattle.aw_term.specs.Choices.{WaitsFor}
use Rattle.aw_term.specs.WellFormed.{takes_of}
use Rattle.aw_name.specs.Limits.{most_steps}
use Rattle.aw_store.specs.Equations.{Map}
use Rattle.aw_store.specs.Chase.{Missing, chase}
use Rattle.aw_store.specs.NamedRefs.{AreNamed}
use Rattle.aw_node_list.specs.declared.held.Held.{Held}
use Rattle.aw_node_list.specs.HeldView.{state_of, sort_or}
use Rattle.aw_standing.specs.declared.record.Stands.{Stands}
use Rattle.aw_standing.specs.declared.record.Stands.TheVariants as stands
use Rattle.aw_standing.specs.declared.record.Mark.{Mark}
use Rattle.aw_standing.specs.declared.record.Record.{Record}
use Rattle.aw_standing.specs.Standings.{kept_refusal, told_refusal, waits_for_one}

-- the numbers of the rules of a sort, in order; the first of these rules has number i
abbrev pub rules_of : ℕ → ℕ → List Rule → List ℕ
rules_of s i [] = []
rules_of s i (rule ∷ rules) = if nat_eq rule.sort s then i ∷ rules_of s (suc i) rules else rules_of s (suc i) rules

-- the rules of which something is kept at a node of this sort: those of the sort, and none where the node was developed
abbrev pub open_rules : Grammar → ℕ → State → List ℕ
open_rules g s Pending = rules_of s 0 g.rules
open_rules g s (Done rule args) = []

-- the rule of a mark
abbrev pub mark_rule : Mark → ℕ
mark_rule m = m.rule

-- each of these numbers is below those behind it
abbrev pub AreRising : List ℕ → Type 0
AreRising ns = (i j a b : ℕ) → i < j → slice_get ns i ≡ Some a → slice_get ns j ≡ Some b → a < b

-- the rule is of this sort
abbrev pub is_of_sort : ℕ → Option Rule → Bool
is_of_sort s None = false
is_of_sort s (Some rule) = nat_eq rule.sort s

-- a slot in it is one of so many
abbrev pub has_live : ℕ → Stands → Bool
has_live n (stands.Waits slot) = nat_lt slot n
has_live n (stands.Circle slot) = nat_lt slot n
has_live n _ = true

-- each slot in these marks has a name
abbrev pub AreLive : List Ref → List Mark → Type 0
AreLive names ms = (j : ℕ) (m : Mark) → slice_get ms j ≡ Some m → has_live (length names) m.stands ≡ true

-- A record in which each slot has a name, as many as the sort takes, and each mark is of a rule of the sort, in the order of the rules.
pub record IsFit (g : Grammar) (names : List Ref) (x : Record) : Type 0 where
  pub live : All (λ slot. slot < length names) x.slots.items
  pub takes : length x.slots.items ≡ takes_of (slice_get g.sorts x.sort)
  pub rules : (j : ℕ) (m : Mark) → slice_get x.marks.items j ≡ Some m → is_of_sort x.sort (slice_get g.rules m.rule) ≡ true
  pub rising : AreRising (map mark_rule x.marks.items)
  pub stand : (j : ℕ) (m : Mark) → slice_get x.marks.items j ≡ Some m → has_live (length names) m.stands ≡ true

-- an open node that inherits these references
abbrev pub open_node : Node → List Ref → Held
open_node n rs = record { node = n; inherited = rs; done = None }

-- a record is of this node: it has its sort, its references and a mark for each rule of its sort
pub record IsOf (g : Grammar) (names : List Ref) (h : Held) (x : Record) : Type 0 where
  pub sort : sort_or (sort_of g h.node) ≡ x.sort
  pub slots : AreNamed names x.slots.items h.inherited
  pub deep : x.deep ≡ nat_eq (length h.node.steps) most_steps
  pub rules : map mark_rule x.marks.items ≡ open_rules g x.sort (state_of h.done)

-- a mark with this standing
abbrev pub with_stands : Mark → Stands → Mark
with_stands m s = record { rule = m.rule; stands = s }

-- a mark says how its rule stands at the node
abbrev pub IsTold : Grammar → Map → List Ref → Held → Mark → Type 0
IsTold g k names h m = (rule : Rule) → slice_get g.rules m.rule ≡ Some rule → kept_refusal names m.stands ≡ told_refusal k h.node h.inherited rule

-- each mark does so, but where it waits for one of these references
abbrev pub AreTold : Grammar → Map → List Ref → List Ref → Held → List Mark → Type 0
AreTold g k names late h ms = (j : ℕ) (m : Mark) → slice_get ms j ≡ Some m → waits_for_one names late m.stands ≡ false → IsTold g k names h m

-- a rule whose mark waits for a reference waits for the one to which a chase leads from there, where that one has no equation
abbrev pub WaitsAtEnd : Grammar → Map → List Ref → Held → Mark → Type 0
WaitsAtEnd g k names h m = (rule : Rule) (slot : ℕ) (r end : Ref) → slice_get g.rules m.rule ≡ Some rule → m.stands ≡ stands.Waits slot →
    slice_get names slot ≡ Some r → chase k r ≡ Missing end → told_refusal k h.node h.inherited rule ≡ Some (WaitsFor (Some end))

-- the mark at a place stands so now
abbrev pub stand_at : Stands → ℕ → List Mark → List Mark
stand_at s i [] = []
stand_at s zero (m ∷ ms) = with_stands m s ∷ ms
stand_at s (suc i) (m ∷ ms) = m ∷ stand_at s i ms
