-- The walk of a load: what a message has seen, and what a walk gives next.
use Rattle.std.specs.Prelude.{◌≡◌, List, [], ◌∷◌, ◌++◌, Option, Some, None}
use Rattle.aw_term.specs.Trees.{Never}
use Rattle.aw_term.specs.Names.{Ref}
use Rattle.aw_store.specs.Equations.{mentions}
use Rattle.aw_store.specs.EquationView.{equation_of}
use Rattle.aw_store.specs.declared.equation.Equation.{Equation}
use Rattle.aw_law_sites.specs.Loads.{Given}

-- one item alone, or none
abbrev pub listed : {A : Type 0} → Option A → List A
listed None = []
listed (Some m) = m ∷ []

-- the left sides of these equations, the last one first, before other references
abbrev pub seen_with : List Equation → List Ref → List Ref
seen_with [] seen = seen
seen_with (e ∷ es) seen = seen_with es (e.left ∷ seen)

-- the equation that a walk gives next, and the references that are then to be looked at
abbrev pub Gives : Option Given → Option Equation → List Ref → Type 0
Gives None None rs = Unit {0}
Gives (Some d) (Some e) rs = (d.equation ≡ equation_of e) × (rs ≡ mentions d.equation.body ++ d.rest)
Gives _ _ _ = Never

-- the same of one reference, where later ones give what is told: it gives its own equation, or nothing
abbrev pub GivesFirst : Option Given → Option Given → Option Equation → List Ref → Type 0
GivesFirst given later None rs = given ≡ later
GivesFirst given later (Some e) rs = Gives given (Some e) rs
