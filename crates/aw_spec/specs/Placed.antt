-- What offers and uses say, by the places of their names.
use Rattle.std.specs.Prelude.{ℕ, [], ◌∷◌, ◌++◌, Option, None, Some, if◌then◌else◌}
use Rattle.aw_face.specs.Faces.{is_offered, is_used}
use Rattle.aw_spec.specs.declared.fault.SpecKind.TheVariants.{Double, Unknown}
use Rattle.aw_spec.specs.Reading.{Spec, Step, On, Wrong}

-- an offer of the sort at a place among the declared ones
abbrev pub offering : Spec → Option ℕ → Step
offering s None = Wrong Unknown
offering s (Some sort) = if is_offered sort s.offers then Wrong Double else On (record s { offers = s.offers ++ sort ∷ [] })

-- a use by this role of the sort at a place
abbrev pub using_sort : Spec → ℕ → Option ℕ → Step
using_sort s role None = Wrong Unknown
using_sort s role (Some sort) =
    if is_used role sort s.uses then Wrong Double else On (record s { uses = s.uses ++ record { role = role; sort = sort } ∷ [] })

-- a use by the role at a place
abbrev pub using_by : Spec → Option ℕ → Option ℕ → Step
using_by s None sort = Wrong Unknown
using_by s (Some role) sort = using_sort s role sort
