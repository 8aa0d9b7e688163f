-- Configurations in which no value waits for itself.
use Rattle.std.specs.Prelude.{◌≡◌, ℕ, ◌<◌, ◌≤◌, ◌⊎◌, List, [], ◌∷◌, length, Some, slice_get}
use Rattle.aw_list.specs.Members.{Member}
use Rattle.aw_term.specs.Trees.{Never, In}
use Rattle.aw_term.specs.Names.{Node, Ref, below, result}
use Rattle.aw_term.specs.Rules.{Ground, Value, Child, Rule, Grammar}
use Rattle.aw_term.specs.Configs.{Pending, Row, Config}
use Rattle.aw_term.specs.Choices.{Choice, Develop, gives_of, outcome, taken, undivided}
use Rattle.aw_iograph.specs.Graphs.{Plus}
use Rattle.aw_iograph.specs.Occurrences.{item}
use Rattle.aw_iograph.specs.Dependence.{IO, IsClosedUnder, HasNoCircle}

-- two lists side by side
abbrev pub Pairs : {A B : Type 0} → (A → B → Type 0) → List A → List B → Type 0
Pairs P [] [] = Unit {0}
Pairs P (a ∷ as') (b ∷ bs) = P a b × Pairs P as' bs
Pairs P [] (b ∷ bs) = Never
Pairs P (a ∷ as') [] = Never

-- a result of a pending row needs the holes in those inherited values on which it depends
pub data Needs (rel : ℕ → ℕ → ℕ → Type 0) (c : Config) : Ref → Ref → Type 0 where
  need : {h : Ref} → (q : Row) → (i j : ℕ) → (t : Value) → Member q c → q.state ≡ Pending → rel q.sort i j → item q.inherited i ≡ Some t → In h t → Needs rel c (result q.node j) h

-- a hole stands somewhere in a row
abbrev pub Stands : Ref → Row → Type 0
Stands h q = ((t : Value) × Member t q.inherited × In h t) ⊎ ((t : Value) × Member t q.results × In h t)

-- each hole is a result of a pending row
abbrev pub IsWhole : Config → Type 0
IsWhole c = (q : Row) → Member q c → (h : Ref) → Stands h q →
    (p : Row) × (j : ℕ) × Member p c × (p.state ≡ Pending) × (h ≡ result p.node j) × (0 < j) × (j ≤ length p.results)

-- each hole is one of a pending row, and none needs itself
pub record IsAcyclic (rel : ℕ → ℕ → ℕ → Type 0) (c : Config) : Type 0 where
  pub whole : IsWhole c
  pub no_circle : (h : Ref) → Plus (Needs rel c) h h → Never

-- how many results a sort gives
abbrev pub gives : Grammar → ℕ → ℕ
gives g s = gives_of (slice_get g.sorts s)

-- rules and their children have as many results as their sorts give
pub record IsGivenGrammar (g : Grammar) : Type 0 where
  pub results : (r : Rule) → Member r g.rules → length r.results ≡ gives g r.sort
  pub outs : (r : Rule) → Member r g.rules → (k : ℕ) (d : Child) → slice_get r.children k ≡ Some d → d.outs ≡ gives g d.sort

-- nodes differ, a child's parent was developed, and a row has its sort's results
pub record IsTree (g : Grammar) (c : Config) : Type 0 where
  pub apart : (p p' : Row) → Member p c → Member p' c → p.node ≡ p'.node → p ≡ p'
  pub parents : (p : Row) → Member p c → (n : Node) (ri k : ℕ) → p.node ≡ below n ri k → (p' : Row) × Member p' c × (p'.node ≡ n) × (p'.state ≡ Pending → Never)
  pub many : (p : Row) → Member p c → length p.results ≡ gives g p.sort

-- no hole of the node stands in a row
abbrev pub HasNoHoleOf : Node → Config → Type 0
HasNoHoleOf n c = (q : Row) → Member q c → (h : Ref) → h.node ≡ n → Stands h q → Never

-- a taken choice keeps that a configuration is a tree of tasks, and acyclic over a relation
abbrev pub ChoicesKeep : Grammar → (ℕ → ℕ → ℕ → Type 0) → Type 0
ChoicesKeep g rel = (c d : Config) (x : Choice) →
    IsTree g c → IsAcyclic rel c → taken g c x (outcome g c x) ≡ Some d → IsTree g d × IsAcyclic rel d

-- each configuration of an undivided run is a tree of tasks, and acyclic over a relation
abbrev pub RunsAreAcyclic : Grammar → (ℕ → ℕ → ℕ → Type 0) → Type 0
RunsAreAcyclic g rel = (cs : List Choice) (c : Config) → undivided g [] cs ≡ Some c → IsTree g c × IsAcyclic rel c

-- as many rounds as a rule has results are enough: after them no hole of the node on which it was taken is left
abbrev pub RoundsLeaveNone : Grammar → (ℕ → ℕ → ℕ → Type 0) → Type 0
RoundsLeaveNone g rel = (c d : Config) (n : Node) (r : ℕ) (args : List Ground) →
    IsTree g c → IsAcyclic rel c → taken g c (Develop n r args) (outcome g c (Develop n r args)) ≡ Some d → HasNoHoleOf n d

-- over the dependence relation
abbrev pub KeepsAcyclic : Grammar → Type 0
KeepsAcyclic g = IsGivenGrammar g → HasNoCircle g (IO g) → ChoicesKeep g (IO g)

-- over the dependence relation, where no occurrence reaches itself in a rule: each configuration of a run is a tree of tasks, and acyclic
abbrev pub AllAcyclic : Grammar → Type 0
AllAcyclic g = IsGivenGrammar g → HasNoCircle g (IO g) → RunsAreAcyclic g (IO g)

-- over the dependence relation, where no occurrence reaches itself in a rule: the rounds of a taken choice leave no hole of its node
abbrev pub LeavesNoHole : Grammar → Type 0
LeavesNoHole g = IsGivenGrammar g → HasNoCircle g (IO g) → RoundsLeaveNone g (IO g)

-- all three over a relation that is closed under the rules and over which no occurrence reaches itself in a rule
pub record HasAcyclicRuns (g : Grammar) (rel : ℕ → ℕ → ℕ → Type 0) : Type 0 where
  pub keeps : ChoicesKeep g rel
  pub all : RunsAreAcyclic g rel
  pub leaves_none : RoundsLeaveNone g rel

-- each relation that is closed under the rules, and over which no occurrence reaches itself in a rule, has acyclic runs
abbrev pub AcyclicOver : Grammar → (ℕ → ℕ → ℕ → Type 0) → Type 0
AcyclicOver g rel = IsGivenGrammar g → IsClosedUnder g rel → HasNoCircle g rel → HasAcyclicRuns g rel
