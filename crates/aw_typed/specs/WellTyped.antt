-- Well-typed configurations, and that a typed grammar leads to no other.
use Rattle.std.specs.Prelude.{◌≡◌, ℕ, Bool, true, List, [], Option, Some, None, option_and_then}
use Rattle.aw_list.specs.Members.{Member}
use Rattle.aw_term.specs.Names.{Ref, Slot, Result, Part}
use Rattle.aw_term.specs.Rules.{Grammar, sort_of}
use Rattle.aw_term.specs.Configs.{Row, Config}
use Rattle.aw_term.specs.Choices.{Choice, undivided}
use Rattle.aw_term.specs.WellFormed.{Each}
use Rattle.aw_base.specs.ChoiceFits.{choice_ok}
use Rattle.aw_iograph.specs.Occurrences.{item}
use Rattle.aw_typed.specs.Types.{Types, takes, gives, AreFor}
use Rattle.aw_typed.specs.Fitting.{is_type, all_fit}
use Rattle.aw_typed.specs.TypeFaults.{type_fault, arg_ok}

-- the type of a result, where these are the types of all
abbrev pub slot_type : List ℕ → Slot → Option ℕ
slot_type ts (Result j) = item ts j
slot_type ts (Part k) = None

-- the type of a hole: that of result j of its node's sort
abbrev pub hole_type : Types → Grammar → Ref → Option ℕ
hole_type T g h = option_and_then (λ s. slot_type (gives T s) h.slot) (sort_of g h.node)

-- a hole is of this type
abbrev pub hole_has : Types → Grammar → ℕ → Ref → Bool
hole_has T g t h = is_type t (hole_type T g h)

-- the inherited values and the results of a row fit what its sort carries
pub record HasTypes (T : Types) (g : Grammar) (q : Row) : Type 0 where
  pub inherited : all_fit T (hole_has T g) (takes T q.sort) q.inherited ≡ true
  pub results : all_fit T (hole_has T g) (gives T q.sort) q.results ≡ true

-- each row has its types
abbrev pub IsWellTyped : Types → Grammar → Config → Type 0
IsWellTyped T g c = (q : Row) → Member q c → HasTypes T g q

-- choices that may be asked of the grammar, and whose arguments fit
abbrev pub AreFitting : Types → Grammar → List Choice → Type 0
AreFitting T g cs = Each (λ x. (choice_ok g x ≡ true) × (arg_ok T g x ≡ true)) cs

-- where a grammar has types and no fault in them, each configuration that such choices lead to is well typed
abbrev pub AllWellTyped : Types → Grammar → Type 0
AllWellTyped T g = T.typed ≡ true → AreFor g T → type_fault T g ≡ None → (cs : List Choice) (c : Config) → AreFitting T g cs → undivided g [] cs ≡ Some c → IsWellTyped T g c
