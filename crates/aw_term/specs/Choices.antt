-- Choices, their answers, and the undivided run: all choices in turn on one configuration.
use Rattle.std.specs.Prelude.{ℕ, Bool, true, false, ◌&&◌, List, [], ◌∷◌, length, Option, Some, None, slice_get, nat_eq, nat_lt, if◌then◌else◌, option_and_then}
use Rattle.aw_term.specs.Names.{Node, Ref, root}
use Rattle.aw_term.specs.Rules.{Ground, Value, Rule, Sort, Grammar}
use Rattle.aw_term.specs.Matching.{Matched, Yes, Waits, Differs, Circle, match_all}
use Rattle.aw_term.specs.Configs.{State, Pending, Done, Row, Config, holes, insert_row, row_of, develop}
use Rattle.aw_name.specs.Limits.{most_steps}

-- the start of a case with a sort, or a rule with its arguments on a node
pub data Choice : Type 0 where
  Start : (sort case : ℕ) → Choice
  Develop : (node : Node) → (rule : ℕ) → (args : List Ground) → Choice

-- The first that holds is told. A mismatch has the attribute's number and then the numbers of the parts.
pub data Answer (R : Type 0) : Type 0 where
  Known : Answer R
  NotHere : Answer R
  Developed : Answer R
  NotItsRule : Answer R
  Arguments : Answer R
  WaitsFor : (on : R) → Answer R
  Mismatch : (path : List ℕ) → Answer R
  CircleAt : (at : R) → Answer R
  TooDeep : Answer R
  Taken : Answer R

-- what a choice leads to: a refusal, a new case, or a rule with the values that its patterns bind
pub data Outcome (A R : Type 0) : Type 0 where
  Refused : (answer : Answer R) → Outcome A R
  Starts : Outcome A R
  Takes : (rule : Rule) → (bound : List A) → Outcome A R

-- a child of this rule would have a name that is too long
abbrev pub deep : Node → Rule → Bool
deep n rule = nat_eq (length n.steps) most_steps && nat_lt 0 (length rule.children)

-- what a choice of a rule on a node leads to once its patterns were matched: it is taken where all match and no child would have too long a name
abbrev pub after_guard : {A R : Type 0} → Node → Rule → Matched A R → Outcome A R
after_guard n rule (Yes xs) = if deep n rule then Refused TooDeep else Takes rule xs
after_guard n rule (Waits r) = Refused (WaitsFor r)
after_guard n rule (Differs p) = Refused (Mismatch p)
after_guard n rule (Circle r) = Refused (CircleAt r)

-- what a choice of this rule on a pending row leads to: it has to be a rule for the sort of the row, with as many arguments as it has parameters
abbrev pub at_rule : Option Rule → Node → List Ground → Row → Outcome Value Ref
at_rule None n args q = Refused NotItsRule
at_rule (Some rule) n args q =
    if nat_eq rule.sort q.sort
    then (if nat_eq (length args) rule.params then after_guard n rule (match_all 1 rule.patterns q.inherited) else Refused Arguments)
    else Refused NotItsRule

-- what a choice of a rule leads to on a row in this state: no rule is taken where one was before
abbrev pub at_state : State → Grammar → Node → ℕ → List Ground → Row → Outcome Value Ref
at_state (Done r a) g n rule args q = Refused Developed
at_state Pending g n rule args q = at_rule (slice_get g.rules rule) n args q

-- what a choice of a rule on a node leads to, where this is the row of the node, or none is held
abbrev pub at_row : Option Row → Grammar → Node → ℕ → List Ground → Outcome Value Ref
at_row None g n rule args = Refused NotHere
at_row (Some q) g n rule args = at_state q.state g n rule args q

-- what the start of a case leads to, where this is the row with which the case begins, or none is held
abbrev pub not_held : Option Row → Outcome Value Ref
not_held None = Starts
not_held (Some q) = Refused Known

-- what a choice leads to on this configuration
abbrev pub outcome : Grammar → Config → Choice → Outcome Value Ref
outcome g c (Start s k) = not_held (row_of (root s k) c)
outcome g c (Develop n r args) = at_row (row_of n c) g n r args

-- the answer that is told of an outcome
abbrev pub answer_of : {A R : Type 0} → Outcome A R → Answer R
answer_of (Refused a) = a
answer_of Starts = Taken
answer_of (Takes rule bound) = Taken

-- whether an answer is that the choice was taken
abbrev pub is_taken : {R : Type 0} → Answer R → Bool
is_taken Taken = true
is_taken a = false

-- the answer to a choice; it is enabled where the answer is Taken
abbrev pub answer : Grammar → Config → Choice → Answer Ref
answer g c x = answer_of (outcome g c x)

-- how many results a sort gives; 0 where no such sort is declared, which does not come in a well-formed grammar
abbrev pub gives_of : Option Sort → ℕ
gives_of None = 0
gives_of (Some s) = s.gives

-- the pending row of a new case
abbrev pub start_row : Grammar → ℕ → ℕ → Row
start_row g s k = record { node = root s k; sort = s; inherited = []; results = holes (root s k) (gives_of (slice_get g.sorts s)); state = Pending }

-- the configuration after a choice with this outcome, where it was taken
abbrev pub taken : Grammar → Config → Choice → Outcome Value Ref → Option Config
taken g c _ (Refused a) = None
taken g c (Start s k) Starts = Some (insert_row (start_row g s k) c)
taken g c (Start s k) (Takes rule bound) = None
taken g c (Develop n r args) Starts = None
taken g c (Develop n r args) (Takes rule bound) = Some (develop n r rule bound args c)

-- the new one, or the old one where there is no new one
abbrev pub or_same : {A : Type 0} → A → Option A → A
or_same x None = x
or_same x (Some y) = y

-- the configuration after a choice: as it was where the choice was refused
abbrev pub after : Grammar → Config → Choice → Config
after g c x = or_same c (taken g c x (outcome g c x))

-- the configuration after these choices, defined where each of them is taken in turn
abbrev pub undivided : Grammar → Config → List Choice → Option Config
undivided g c [] = Some c
undivided g c (x ∷ xs) = option_and_then (λ d. undivided g d xs) (taken g c x (outcome g c x))
