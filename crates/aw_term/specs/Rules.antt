-- Sorts and rules, with constructors, sorts, rules and roles by their positions from 0.
use Rattle.std.specs.Prelude.{ℕ, zero, suc, Bool, List, [], ◌∷◌, Option, Some, None, slice_get, nat_eq, if◌then◌else◌, option_and_then, option_map, filter}
use Rattle.std.specs.Option.{unwrap_or}
use Rattle.aw_term.specs.Trees.{Never, Tree}
use Rattle.aw_term.specs.Names.{Step, Node, Ref}

-- a term of a rule: its leaves are the rule's variables by number
abbrev pub Term : Type 0
Term = Tree ℕ

-- an argument: it has no leaves
abbrev pub Ground : Type 0
Ground = Tree Never

-- a value: a leaf is a hole, the result of a node on which no choice was taken yet
abbrev pub Value : Type 0
Value = Tree Ref

-- a subtask: its sort, the terms of its inherited values, and how many results it gives
pub record Child : Type 0 where
  pub sort : ℕ
  pub args : List Term
  pub outs : ℕ

-- variables are numbered from 0 as they enter: in patterns depth first, as parameters, as results of children
pub record Rule : Type 0 where
  pub sort : ℕ
  pub patterns : List Term
  pub params : ℕ
  pub results : List Term
  pub children : List Child

-- a sort of tasks: its role, how many inherited values it takes and results it gives, and whether cases start with it
pub record Sort : Type 0 where
  pub role : ℕ
  pub takes : ℕ
  pub gives : ℕ
  pub start : Bool

-- a specification by numbers: how many roles there are, how many parts each constructor has, the sorts and the rules
pub record Grammar : Type 0 where
  pub roles : ℕ
  pub arities : List ℕ
  pub sorts : List Sort
  pub rules : List Rule

-- item i, counted from 0, or d past the end
abbrev pub get : {A : Type 0} → A → List A → ℕ → A
get d [] i = d
get d (x ∷ xs) zero = x
get d (x ∷ xs) (suc i) = get d xs i

-- item i, counted from 1, or d where there is none
abbrev pub nth : {A : Type 0} → A → List A → ℕ → A
nth d xs zero = d
nth d xs (suc i) = get d xs i

-- n numbers from i on
abbrev pub upto : ℕ → ℕ → List ℕ
upto i zero = []
upto i (suc n) = i ∷ upto (suc i) n

-- child k, counted from 1
abbrev pub child_at : List Child → ℕ → Option Child
child_at cs zero = None
child_at cs (suc k) = slice_get cs k

-- the sort of the child that a step from a sort names, where the step fits
abbrev pub sort_of_step : Grammar → ℕ → Step → Option ℕ
sort_of_step g s step =
    option_and_then (λ (r : Rule). if nat_eq r.sort s then option_map (λ (c : Child). c.sort) (child_at r.children step.child) else None) (slice_get g.rules step.rule)

-- the sort after some steps, where each fits
abbrev pub sort_after : Grammar → ℕ → List Step → Option ℕ
sort_after g s [] = Some s
sort_after g s (step ∷ steps) = option_and_then (λ t. sort_after g t steps) (sort_of_step g s step)

-- the sort of a node, where its name is valid: it begins at a start sort, and each step fits
abbrev pub sort_of : Grammar → Node → Option ℕ
sort_of g n = option_and_then (λ (s : Sort). if s.start then sort_after g n.start n.steps else None) (slice_get g.sorts n.start)

-- the role at which a node is worked on: that of its sort
abbrev pub home_of : Grammar → Node → Option ℕ
home_of g n = option_and_then (λ s. option_map (λ (t : Sort). t.role) (slice_get g.sorts s)) (sort_of g n)

-- the sort of the child that a step names, or sort 0 where there is none
abbrev pub sort_of_child : Grammar → Step → ℕ
sort_of_child g step =
    unwrap_or (option_and_then (λ (r : Rule). option_map (λ (c : Child). c.sort) (child_at r.children step.child)) (slice_get g.rules step.rule)) 0

-- the last of some steps, where there is one
abbrev pub last_step : List Step → Option Step
last_step [] = None
last_step (step ∷ []) = Some step
last_step (step ∷ next ∷ steps) = last_step (next ∷ steps)

-- the sort of a node by the last step of its name: that of the child that it names, or the start sort where there is no step
abbrev pub sort_at : Grammar → Node → ℕ
sort_at g n = unwrap_or (option_map (sort_of_child g) (last_step n.steps)) n.start

-- the role of a sort, or 0 where there is no such sort
abbrev pub role_or_0 : Option Sort → ℕ
role_or_0 None = 0
role_or_0 (Some s) = s.role

-- the role of a sort, or 0 where no such sort is declared
abbrev pub role_of : List Sort → ℕ → ℕ
role_of sorts s = role_or_0 (slice_get sorts s)

-- the role at which a node is worked on, by the last step of its name
abbrev pub home_at : Grammar → Node → ℕ
home_at g n = role_of g.sorts (sort_at g n)

-- the grammar with those of its rules of which the test holds, in their order
abbrev pub some_rules : (Rule → Bool) → Grammar → Grammar
some_rules p g = record g { rules = filter p g.rules }
