-- What a chase answers, as the plain definitions speak of it.
use Rattle.std.specs.Prelude.{◌≡◌, ℕ, List, Option, Some, None, slice_get}
use Rattle.aw_term.specs.Trees.{Never}
use Rattle.aw_term.specs.Names.{Ref}
use Rattle.aw_store.specs.Equations.{Body, Same, Is, Map, find}
use Rattle.aw_store.specs.Chase as P
use Rattle.aw_store.specs.declared.facts.Chase.{Chase}
use Rattle.aw_store.specs.declared.facts.Chase.TheVariants as chase
use Rattle.aw_store.specs.declared.follow.Look.{Look}
use Rattle.aw_store.specs.declared.follow.Look.TheVariants as look

-- a slot at which this body is found
abbrev pub IsFoundAt : Map → List Ref → Body → ℕ → Type 0
IsFoundAt k names b slot = (r : Ref) × (slice_get names slot ≡ Some r) × (find k r ≡ Some b)

-- what is chased from a slot ends so
abbrev pub IsChasedTo : Map → List Ref → ℕ → P.Chased → Chase → Type 0
IsChasedTo k names slot (P.Found h parts) (chase.Found end) = IsFoundAt k names (Is h parts) end
IsChasedTo k names slot (P.Missing r) (chase.Missing end) = slice_get names end ≡ Some r
IsChasedTo k names slot P.Round (chase.Circle start) = start ≡ slot
IsChasedTo k names slot _ _ = Never

-- one look at a reference with this body, or with none
abbrev pub IsLookAt : List Ref → Option Body → Look → Type 0
IsLookAt names None look.Missing = Unit {0}
IsLookAt names (Some (Is h parts)) look.Found = Unit {0}
IsLookAt names (Some (Same r)) (look.On next) = slice_get names next ≡ Some r
IsLookAt names _ _ = Never
