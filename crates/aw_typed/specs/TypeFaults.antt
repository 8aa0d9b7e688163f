-- What is wrong with the types of a grammar, first of all, and which arguments fit.
use Rattle.std.specs.Prelude.{ℕ, suc, Bool, true, false, ◌&&◌, List, [], ◌∷◌, ◌++◌, map, length, Option, Some, None, slice_get, nat_eq, if◌then◌else◌}
use Rattle.aw_term.specs.Trees.{Never}
use Rattle.aw_term.specs.Rules.{Ground, Child, Rule, Grammar, get, upto}
use Rattle.aw_term.specs.Choices.{Choice, Start, Develop}
use Rattle.aw_term.specs.WellFormed.{leaves_of}
use Rattle.aw_iograph.specs.declared.occ.Occ.{Occ}
use Rattle.aw_iograph.specs.Occurrences.{inherited, given}
use Rattle.aw_typed.specs.Types.{Types, takes, gives}
use Rattle.aw_typed.specs.Fitting.{is_type, fits, first_misfit, all_pattern_types, or_else, first_place}

-- the type of the first place at which a variable stands in the arguments of children
abbrev pub below_place : Types → ℕ → List Child → Option ℕ
below_place T v [] = None
below_place T v (c ∷ cs) = or_else (first_place T v (takes T c.sort) c.args) (below_place T v cs)

-- A parameter has the type of the first place at which it stands: in the results of the left side, then in the arguments of the children. One that stands nowhere has none.
abbrev pub param_type : Types → Rule → ℕ → Option ℕ
param_type T r v = or_else (first_place T v (gives T r.sort) r.results) (below_place T v r.children)

-- the types of a rule's parameters
abbrev pub param_types : Types → Rule → List (Option ℕ)
param_types T r = map (param_type T r) (upto (length (leaves_of r.patterns)) r.params)

-- the types of the results of children
abbrev pub child_types : Types → List Child → List (Option ℕ)
child_types T [] = []
child_types T (c ∷ cs) = map Some (gives T c.sort) ++ child_types T cs

-- the types of a rule's variables by number, as they enter
abbrev pub variable_types : Types → Rule → List (Option ℕ)
variable_types T r = all_pattern_types T (takes T r.sort) r.patterns ++ (param_types T r ++ child_types T r.children)

-- a variable of a pattern is of the type of its place
abbrev pub any_leaf : ℕ → ℕ → Bool
any_leaf t v = true

-- a variable of a term is of this type, where these are the types of all
abbrev pub variable_has : List (Option ℕ) → ℕ → ℕ → Bool
variable_has ts t v = is_type t (get None ts v)

-- an argument has no variables
abbrev pub no_leaf : ℕ → Never → Bool
no_leaf t x = false

-- the occurrence at the number that was found, or else what comes later
abbrev pub occ_of : (ℕ → Occ) → Option ℕ → Option Occ → Option Occ
occ_of place None later = later
occ_of place (Some i) later = Some (place i)

-- the least inherited value of a child whose term does not fit, counted on from child k
abbrev pub children_misfit : Types → List (Option ℕ) → ℕ → List Child → Option Occ
children_misfit T ts k [] = None
children_misfit T ts k (c ∷ cs) = occ_of (inherited k) (first_misfit T (variable_has ts) 1 (takes T c.sort) c.args) (children_misfit T ts (suc k) cs)

-- the least occurrence of a rule whose term does not fit: of its patterns, its results, the arguments of its children
abbrev pub rule_misfit : Types → Rule → Option Occ
rule_misfit T r =
    occ_of (inherited 0) (first_misfit T any_leaf 1 (takes T r.sort) r.patterns)
    (occ_of (given 0) (first_misfit T (variable_has (variable_types T r)) 1 (gives T r.sort) r.results)
    (children_misfit T (variable_types T r) 1 r.children))

-- a constructor without a shape, a sort without a carry, or a rule with an occurrence whose term does not fit
pub data Fault : Type 0 where
  NoShape : (con : ℕ) → Fault
  NoCarry : (sort : ℕ) → Fault
  InRule : (rule : ℕ) → (place : Occ) → Fault

-- the first that is not declared, counted on from i
abbrev pub first_gap : {A : Type 0} → ℕ → List (Option A) → Option ℕ
first_gap i [] = None
first_gap i (None ∷ xs) = Some i
first_gap i (Some x ∷ xs) = first_gap (suc i) xs

-- the fault at what was found, or else what comes later
abbrev pub fault_of : {A : Type 0} → (A → Fault) → Option A → Option Fault → Option Fault
fault_of f None later = later
fault_of f (Some x) later = Some (f x)

-- the first rule with an occurrence whose term does not fit, counted on from rule i
abbrev pub rules_misfit : Types → ℕ → List Rule → Option Fault
rules_misfit T i [] = None
rules_misfit T i (r ∷ rs) = fault_of (InRule i) (rule_misfit T r) (rules_misfit T (suc i) rs)

-- the first fault: of constructors, of sorts, and then of rules; none where nothing is typed
abbrev pub type_fault : Types → Grammar → Option Fault
type_fault T g = if T.typed then fault_of NoShape (first_gap 0 T.shapes) (fault_of NoCarry (first_gap 0 T.carries) (rules_misfit T 0 g.rules)) else None

-- an argument fits its parameter's type; any fits a parameter that stands nowhere
abbrev pub arg_fits : Types → Option ℕ → Ground → Bool
arg_fits T None a = true
arg_fits T (Some t) a = fits T no_leaf t a

-- arguments fit the types of parameters, as far as both go
abbrev pub args_fit : Types → List (Option ℕ) → List Ground → Bool
args_fit T (t ∷ ts) (a ∷ as') = arg_fits T t a && args_fit T ts as'
args_fit T _ _ = true

-- arguments fit the parameters of a rule, where they are as many
abbrev pub rule_args_fit : Types → Option Rule → List Ground → Bool
rule_args_fit T None args = true
rule_args_fit T (Some r) args = if nat_eq (length args) r.params then args_fit T (param_types T r) args else true

-- the arguments of a choice fit; where they are too many or too few that is for the answer to tell
abbrev pub arg_ok : Types → Grammar → Choice → Bool
arg_ok T g (Start s k) = true
arg_ok T g (Develop n r args) = if T.typed then rule_args_fit T (slice_get g.rules r) args else true
