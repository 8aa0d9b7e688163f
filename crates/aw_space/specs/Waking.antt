-- Left sides of equations that are learnt, and how many rules wait for them.
use Rattle.std.specs.Prelude.{◌≡◌, ◌≤◌, ◌+◌, ℕ, List, [], ◌∷◌, map, Some, true, is_some, slice_get}
use Rattle.aw_term.specs.Names.{Ref}
use Rattle.aw_term.specs.Rules.{Grammar}
use Rattle.aw_term.specs.Held.{Held}
use Rattle.aw_store.specs.Equations.{Equation, Map, find}
use Rattle.aw_store.specs.declared.equation.Equation as program
use Rattle.aw_store.specs.NamedRefs.{body_at}
use Rattle.aw_law_sites.specs.Receiving.{add_on}
use Rattle.aw_law_sites.specs.Worklists.{site_worklist}
use Rattle.aw_work.specs.Triples.{waiting_at}
use Rattle.aw_standing.specs.Items.{waiting_on}
use Rattle.aw_standing.specs.declared.kept.Kept.{Kept}

-- the left side
abbrev pub left_of : program.Equation → Ref
left_of e = e.left

-- the left sides
abbrev pub lefts_of : List Equation → List Ref
lefts_of es = map (λ (e : Equation). e.left) es

-- it has an equation
abbrev pub IsKnown : Map → Ref → Type 0
IsKnown k r = is_some (find k r) ≡ true

-- no more rules than this wait for a reference that has an equation
abbrev pub IsBound : Map → List Ref → Kept → (Ref → ℕ) → Type 0
IsBound k names kept most =
    (slot : ℕ) (r : Ref) → slice_get names slot ≡ Some r → is_some (body_at k names slot) ≡ true → waiting_at slot kept.work.waiting ≤ most r

-- for each of these equations in turn, how many items of the worklist wait for it then
abbrev pub turns_cost : Grammar → List Held → Map → List Equation → ℕ
turns_cost g hs k [] = 0
turns_cost g hs k (e ∷ es) = waiting_on e.left (site_worklist g k hs) + turns_cost g hs (add_on (find k e.left) k e) es
