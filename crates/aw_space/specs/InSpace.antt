-- What is said of a space while it changes: what stays, what is ready in it, and what may come into it.
use Rattle.std.specs.Prelude.{◌≡◌, ◌<◌, ℕ, true, List, Option, Contains, map, vec_len, vec_capacity}
use Rattle.aw_term.specs.Choices.{Choice, Outcome, Taken, answer_of}
use Rattle.aw_term.specs.Names.{Node, Ref}
use Rattle.aw_term.specs.Rules.{sort_of}
use Rattle.aw_apply.specs.declared.making.Made.{Made}
use Rattle.aw_apply.specs.declared.making.MadeChild.{MadeChild}
use Rattle.aw_base.specs.ChoiceFits.{choice_ok}
use Rattle.aw_choice.specs.declared.choice.Choice as program_choice
use Rattle.aw_store.specs.Equations.{Equation}
use Rattle.aw_store.specs.EquationView.{equation_of}
use Rattle.aw_store.specs.NamedRefs.{Grows}
use Rattle.aw_store.specs.declared.equation.Equation as program
use Rattle.aw_store.specs.declared.facts.Facts.{Ghosts}
use Rattle.aw_node_list.specs.HeldView.{sort_or}
use Rattle.aw_node_list.specs.declared.held.Held.{Held}
use Rattle.aw_law_sites.specs.Worlds.{node_of}
use Rattle.aw_space.specs.Children.{are_named, own_children}
use Rattle.aw_space.specs.Costs.{rules_of}
use Rattle.aw_space.specs.Missing.{missing_node}
use Rattle.aw_space.specs.Openings.{AreReady, IsReady}
use Rattle.aw_space.specs.Outcomes.{IsMade, IsOutcome}
use Rattle.aw_space.specs.Seen.{grammar_in, space_seen}
use Rattle.aw_space.specs.Sound.{all_own}
use Rattle.aw_space.specs.Spaces.{is_home, outcome}
use Rattle.aw_space.specs.Taken.{MayBeHeld, MayBeTaken, rule_tests}
use Rattle.aw_space.specs.TakenIn.{IsReadyIf, call_taken_cost}
use Rattle.aw_space.specs.Waking.{left_of}
use Rattle.aw_space.specs.declared.opening.Opening.{Opening}
use Rattle.aw_space.specs.declared.outcome.Outcome as program_outcome
use Rattle.aw_space.specs.declared.placing.Placing.{Placing}
use Rattle.aw_space.specs.declared.space.Space.{Space}
use Rattle.aw_space.specs.declared.taking.Taking.{Taking}

-- Its grammar, its role and all that it holds are as they were; its store may have named more references.
pub record IsStill {F : Type 0} (f : Ghosts F) (old new : Space F f) : Type 0 where
  pub grammar : new.accepted.now.grammar ≡ old.accepted.now.grammar
  pub role : new.role ≡ old.role
  pub nodes : new.held.items ≡ old.held.items
  pub choices : new.choices.items ≡ old.choices.items
  pub equations : f.map new.facts ≡ f.map old.facts
  pub names : Grows (f.names old.facts) (f.names new.facts)

-- ---- what is ready

-- what is to be kept of a node is there
abbrev pub IsNamedIn : {F : Type 0} (f : Ghosts F) → Space F f → Opening → Type 0
IsNamedIn f s o = IsReady (grammar_in f s) (f.names s.facts) o

-- what is to be kept of a node, if there is one, is there, and room for it
abbrev pub IsReadyIn : {F : Type 0} (f : Ghosts F) → Space F f → Option Opening → Type 0
IsReadyIn f s o = IsReadyIf (grammar_in f s) (f.names s.facts) s.held s.kept o

-- what is to be kept of each of these nodes is there, and room for all of them
abbrev pub AreReadyIn : {F : Type 0} (f : Ghosts F) → Space F f → List Opening → Type 0
AreReadyIn f s os = AreReady (grammar_in f s) (f.names s.facts) s.held s.kept os

-- each of these equations can be added without memory
abbrev pub AreSureIn : {F : Type 0} (f : Ghosts F) → Space F f → List program.Equation → Type 0
AreSureIn f s es = (e : Equation) → Contains (map equation_of es) e → f.is_ready s.facts e

-- All that taking a rule needs is there: copies of the left sides of its equations, what is to be kept of its children, and room for the
-- children, the equations and the choice.
pub record HasAllFor {F : Type 0} (f : Ghosts F) (s : Space F f) (t : Taking) (es : List program.Equation) : Type 0 where
  pub told : t.copies.told.items ≡ map left_of es
  pub ready : AreReadyIn f s t.own.items
  pub sure : AreSureIn f s es
  pub one_more : vec_len s.choices < vec_capacity s.choices

-- ---- what may come

-- the children of this role, as open nodes
abbrev pub own_in : {F : Type 0} (f : Ghosts F) → Space F f → List MadeChild → List Held
own_in f s children = own_children (grammar_in f s) s.role children

-- each of these children has a valid name, and those of this role may be held
pub record MayOpen {F : Type 0} (f : Ghosts F) (s : Space F f) (children : List MadeChild) : Type 0 where
  pub named : are_named (grammar_in f s) children ≡ true
  pub own : all_own (grammar_in f s) s.role (own_in f s children) ≡ true

-- an open node may be held
abbrev pub MayHold : {F : Type 0} (f : Ghosts F) → Space F f → Held → Type 0
MayHold f s h = MayBeHeld (grammar_in f s) s.role s.held.items (f.map s.facts) h

-- a choice may take a rule on the node at a place that makes these equations, and these open nodes of this role
abbrev pub MayTake : {F : Type 0} (f : Ghosts F) → Space F f → ℕ → program_choice.Choice → List program.Equation → List Held → Type 0
MayTake f s at c es own = MayBeTaken (grammar_in f s) s.role s.held.items (f.map s.facts) at c (map equation_of es) own

-- how many guards are tested then
abbrev pub tests_in : {F : Type 0} (f : Ghosts F) → Space F f → List program.Equation → List Held → ℕ
tests_in f s es own = rule_tests (grammar_in f s) s.held.items (f.map s.facts) (map equation_of es) own

-- how many where this node is opened
abbrev pub node_tests : {F : Type 0} (f : Ghosts F) → Space F f → Node → ℕ
node_tests f s n = rules_of (grammar_in f s) (sort_or (sort_of (grammar_in f s) n))

-- the node of a call, if there is one, where it is not held
abbrev pub missing_in : {F : Type 0} (f : Ghosts F) → Space F f → Option Placing → Option Held
missing_in f s call = missing_node call s.held.items

-- how many guards are tested where it is opened and these equations are learnt in turn
abbrev pub call_tests : {F : Type 0} (f : Ghosts F) → Space F f → Option Placing → List program.Equation → ℕ
call_tests f s call es = call_taken_cost (grammar_in f s) call s.held.items (f.map s.facts) (map equation_of es)

-- ---- choices

-- what a choice leads to
abbrev pub outcome_here : {F : Type 0} (f : Ghosts F) → Space F f → Choice → Outcome Ref Ref
outcome_here f s c = outcome (grammar_in f s) (space_seen f s) c

-- a choice leads to this
abbrev pub IsForeseen : {F : Type 0} (f : Ghosts F) → Space F f → Choice → program_outcome.Outcome → Type 0
IsForeseen f s c o = IsOutcome o c (outcome_here f s c)

-- a choice of this role is taken, and makes this
pub record IsChosen {F : Type 0} (f : Ghosts F) (s : Space F f) (c : Choice) (m : Made) : Type 0 where
  pub ok : choice_ok (grammar_in f s) c ≡ true
  pub here : is_home (grammar_in f s) s.role (node_of c) ≡ true
  pub taken : answer_of (outcome_here f s c) ≡ Taken
  pub made : IsMade m c (outcome_here f s c)
