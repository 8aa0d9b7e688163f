-- Messages whose names are valid for a grammar.
use Rattle.std.proofs.Common.{◌≡◌, ℕ, ◌≤◌, true, List, length, Some, slice_get}
use Rattle.aw_term.specs.Names.{Ref}
use Rattle.aw_term.specs.Rules.{Grammar, sort_of}
use Rattle.aw_term.specs.WellFormed.{Each, head_fits, takes_of}
use Rattle.aw_base.specs.ChoiceFits.{ref_ok}
use Rattle.aw_store.specs.Equations.{Body, Same, Is, Equation}
use Rattle.aw_apply.specs.Made.{Call}
use Rattle.aw_apply.specs.Messages.{Kind, Calls, Asks, Tells}

-- ---- what is valid; names have at most 250 steps, as each of the program has

abbrev pub IsValidRef : Grammar → Ref → Type 0
IsValidRef g r = (length r.node.steps ≤ 250) × (ref_ok g r ≡ true)

-- a valid reference, or a head with as many valid references as it has parts
abbrev pub IsValidBody : Grammar → Body → Type 0
IsValidBody g (Same r) = IsValidRef g r
IsValidBody g (Is h rs) = (head_fits g.arities h (length rs) ≡ true) × Each (IsValidRef g) rs

abbrev pub IsValidEquation : Grammar → Equation → Type 0
IsValidEquation g e = IsValidRef g e.left × IsValidBody g e.body

-- at most 64 valid equations
abbrev pub IsValidLoad : Grammar → List Equation → Type 0
IsValidLoad g es = (length es ≤ 64) × Each (IsValidEquation g) es

-- a valid node with valid references, as many as its sort inherits
pub record IsValidCall (g : Grammar) (c : Call) : Type 0 where
  pub short : length c.node.steps ≤ 250
  pub sort : ℕ
  pub has_sort : sort_of g c.node ≡ Some sort
  pub count : length c.inherited ≡ takes_of (slice_get g.sorts sort)
  pub references : Each (IsValidRef g) c.inherited

abbrev pub IsValidKind : Grammar → Kind → Type 0
IsValidKind g (Calls c load) = IsValidCall g c × IsValidLoad g load
IsValidKind g (Asks r from) = IsValidRef g r
IsValidKind g (Tells e load) = IsValidEquation g e × IsValidLoad g load
