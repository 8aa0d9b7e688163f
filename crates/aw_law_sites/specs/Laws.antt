-- What holds of every list of choices on a grammar without circles.
use Rattle.std.specs.Prelude.{◌≡◌, ℕ, List, [], Option, Some, None}
use Rattle.aw_list.specs.Members.{Member}
use Rattle.aw_term.specs.Trees.{Never}
use Rattle.aw_term.specs.Names.{Ref, result}
use Rattle.aw_term.specs.Rules.{Term, Value, Grammar}
use Rattle.aw_term.specs.Matching.{Yes, Waits, Differs, Circle}
use Rattle.aw_term.specs.Configs.{Row, Config}
use Rattle.aw_term.specs.Choices.{Choice, answer_of, outcome, taken, undivided}
use Rattle.aw_term.specs.Artifacts.{Words}
use Rattle.aw_term.specs.WellFormed.{IsWellFormed}
use Rattle.aw_iograph.specs.Graphs.{Plus}
use Rattle.aw_iograph.specs.Occurrences.{item}
use Rattle.aw_iograph.specs.Dependence.{IO, HasNoCircle}
use Rattle.aw_apply.specs.Guard.{guard_all}
use Rattle.aw_accept.specs.Acyclic.{Pairs}
use Rattle.aw_store.specs.Equations.{Body, Map, find, mentions}
use Rattle.aw_store.specs.Chase.{Missing, chase}
use Rattle.aw_store.specs.Unfold.{Unfolds, unfold_in}
use Rattle.aw_law_sites.specs.Joint.{Held, Joint, empty_joint, joint_outcome, joint_taken, joint_run}

-- the values of some references, in order
abbrev pub AllUnfold : Map → List Ref → List Value → Type 0
AllUnfold k rs ts = Pairs (λ r t. Unfolds k r t) rs ts

-- a held node is that of the row: its inherited references unfold to the inherited values, and those of its results, counted from 1, to the results
pub record Agree (k : Map) (h : Held) (q : Row) : Type 0 where
  pub node : h.node ≡ q.node
  pub sort : h.sort ≡ q.sort
  pub state : h.state ≡ q.state
  pub inherited : AllUnfold k h.inherited q.inherited
  pub results : (j : ℕ) (t : Value) → item q.results j ≡ Some t → Unfolds k (result h.node j) t

-- both were led to, and agree node by node in order; or neither
abbrev pub AgreeWhereTaken : Option Joint → Option Config → Type 0
AgreeWhereTaken None None = Unit {0}
AgreeWhereTaken (Some w) (Some c) = Pairs (λ h q. Agree w.equations h q) w.held c
AgreeWhereTaken None (Some c) = Never
AgreeWhereTaken (Some w) None = Never

-- a well-formed grammar in which no value depends on itself
abbrev pub IsAccepted : Words → Grammar → Type 0
IsAccepted w g = IsWellFormed w g × HasNoCircle g (IO g)

-- some choices are taken over references where they are taken over trees, and the values are those of the undivided configuration, also where a node is fed by its own result
abbrev pub FlatIsSubstitution : Grammar → Type 0
FlatIsSubstitution g = (cs : List Choice) → AgreeWhereTaken (joint_run g empty_joint cs) (undivided g [] cs)

-- after any choices, one more changes the unfolded values as it changes the trees
abbrev pub StepsAgree : Grammar → Type 0
StepsAgree g = (cs : List Choice) (w : Joint) (c : Config) → joint_run g empty_joint cs ≡ Some w → undivided g [] cs ≡ Some c →
    (x : Choice) → AgreeWhereTaken (joint_taken w x (joint_outcome w g x)) (taken g c x (outcome g c x))

-- after any choices, the answer over references is the undivided answer
abbrev pub AnswersAgree : Grammar → Type 0
AnswersAgree g = (cs : List Choice) (w : Joint) (c : Config) → joint_run g empty_joint cs ≡ Some w → undivided g [] cs ≡ Some c →
    (x : Choice) → answer_of (joint_outcome w g x) ≡ answer_of (outcome g c x)

-- the body of the one reference mentions the other
abbrev pub Leads : Map → Ref → Ref → Type 0
Leads k r s = (b : Body) × (find k r ≡ Some b) × Member s (mentions b)

-- each reference has a value, and none leads back to itself
pub record AreAcyclic (k : Map) : Type 0 where
  pub values : (r : Ref) → (t : Value) × Unfolds k r t
  pub no_circle : (r : Ref) → Plus (Leads k) r r → Never

-- the equations of taken choices are acyclic
abbrev pub EquationsAreAcyclic : Grammar → Type 0
EquationsAreAcyclic g = (cs : List Choice) (w : Joint) → joint_run g empty_joint cs ≡ Some w → AreAcyclic w.equations

-- each choice of the one list is in the other
abbrev pub SameChoices : List Choice → List Choice → Type 0
SameChoices cs ds = ((x : Choice) → Member x cs → Member x ds) × ((x : Choice) → Member x ds → Member x cs)

-- two lists of the same choices, where each takes all of its choices, lead to one configuration
abbrev pub AnyOrder : Grammar → Type 0
AnyOrder g = (cs ds : List Choice) → SameChoices cs ds → (c d : Config) → undivided g [] cs ≡ Some c → undivided g [] ds ≡ Some d → c ≡ d

-- what has an equation in the one has the same in the other
abbrev pub IsSubmap : Map → Map → Type 0
IsSubmap k l = (r : Ref) (b : Body) → find k r ≡ Some b → find l r ≡ Some b

-- a guard that is met over the one is met over the other, and binds the same references
abbrev pub YesStays : Map → Map → Type 0
YesStays k l = (ps : List Term) (rs bound : List Ref) → guard_all k 1 ps rs ≡ Yes bound → guard_all l 1 ps rs ≡ Yes bound

-- a guard that differs over the one differs over the other, at the same place
abbrev pub DiffersStays : Map → Map → Type 0
DiffersStays k l = (ps : List Term) (rs : List Ref) (path : List ℕ) → guard_all k 1 ps rs ≡ Differs path → guard_all l 1 ps rs ≡ Differs path

-- a guard that waits over the one waits for the same reference over the other, where that has no equation there either
abbrev pub WaitsStays : Map → Map → Type 0
WaitsStays k l = (ps : List Term) (rs : List Ref) (r : Ref) → find l r ≡ None → guard_all k 1 ps rs ≡ Waits r → guard_all l 1 ps rs ≡ Waits r

-- a guard that waits over the one waits over the other for the reference without an equation to which a chase leads there
abbrev pub WaitsMoves : Map → Map → Type 0
WaitsMoves k l = (ps : List Term) (rs : List Ref) (r end : Ref) → chase l r ≡ Missing end → guard_all k 1 ps rs ≡ Waits r → guard_all l 1 ps rs ≡ Waits end

-- a guard that meets a circle over the one meets it over the other, from the same reference
abbrev pub CircleStays : Map → Map → Type 0
CircleStays k l = (ps : List Term) (rs : List Ref) (r : Ref) → guard_all k 1 ps rs ≡ Circle r → guard_all l 1 ps rs ≡ Circle r

-- a reference has at most one value
abbrev pub HasOneValue : Map → Ref → Type 0
HasOneValue k r = (t u : Value) → Unfolds k r t → Unfolds k r u → t ≡ u

-- what unfolding to some depth gives is the value
abbrev pub IsComputed : Map → Ref → Type 0
IsComputed k r = (n : ℕ) (t : Value) → unfold_in n k r ≡ Some t → Unfolds k r t

-- a value is given by unfolding to some depth
abbrev pub IsReached : Map → Ref → Type 0
IsReached k r = (t : Value) → Unfolds k r t → (n : ℕ) × (unfold_in n k r ≡ Some t)
