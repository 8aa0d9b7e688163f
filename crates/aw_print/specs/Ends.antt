-- Where chases end, as that is kept while the lines of one store are printed.
use Rattle.std.specs.Prelude.{◌≡◌, ℕ, List, [], Some, slice_get}
use Rattle.aw_term.specs.Names.{Ref}
use Rattle.aw_store.specs.Equations.{Same, Map, find}
use Rattle.aw_store.specs.Chase.{chase}
use Rattle.aw_store.specs.ChaseView.{IsChasedTo}
use Rattle.aw_store.specs.declared.facts.Chase.{Chase}
use Rattle.aw_store.specs.declared.facts.Chase.TheVariants.{Found, Missing, Circle}
use Rattle.aw_print.specs.declared.ends.Ends.{Ends}
use Rattle.aw_print.specs.declared.ends.Step.{Step}
use Rattle.aw_print.specs.declared.ends.Step.TheVariants.{End, On}

-- the chase from this slot ends so
abbrev pub EndsAt : Map → List Ref → ℕ → Chase → Type 0
EndsAt k names slot end = (r : Ref) → slice_get names slot ≡ Some r → IsChasedTo k names slot (chase k r) end

-- this end is kept for this slot
abbrev pub Keeps : Ends → ℕ → Chase → Type 0
Keeps ends slot end = slice_get ends.kept.items slot ≡ Some (Some end)

-- each end that is kept is the end of the chase from its slot
abbrev pub AreEnds : Map → List Ref → Ends → Type 0
AreEnds k names ends = (slot : ℕ) (end : Chase) → Keeps ends slot end → EndsAt k names slot end

-- nothing is kept
abbrev pub KeepsNone : Ends → Type 0
KeepsNone ends = ends.kept.items ≡ []

-- the end of a chase, told of a slot on its way: a chase that goes round names the slot where it started
abbrev pub end_at : ℕ → Chase → Chase
end_at slot (Found at) = Found at
end_at slot (Missing at) = Missing at
end_at slot (Circle start) = Circle slot

-- the equation of the one slot names the other
abbrev pub NamesNext : Map → List Ref → ℕ → ℕ → Type 0
NamesNext k names at next = (r : Ref) → slice_get names at ≡ Some r → (s : Ref) × (find k r ≡ Some (Same s)) × (slice_get names next ≡ Some s)

-- one step of a chase from this slot
abbrev pub IsStep : Map → List Ref → ℕ → Step → Type 0
IsStep k names at (End end) = EndsAt k names at end
IsStep k names at (On next) = NamesNext k names at next
