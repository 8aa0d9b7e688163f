-- The load of a message: equations of the sender that the references of the message lead to, at most 64 of them.
use Rattle.std.specs.Prelude.{ℕ, zero, suc, Bool, true, false, not, ◌&&◌, List, [], ◌∷◌, ◌++◌, Option, Some, None, nat_eq, if◌then◌else◌}
use Rattle.aw_term.specs.Names.{Ref}
use Rattle.aw_term.specs.Rules.{Grammar}
use Rattle.aw_term.specs.Limits.{most_of_load}
use Rattle.aw_store.specs.Equations.{Body, Equation, find, mentions}
use Rattle.aw_law_sites.specs.Homes.{home}
use Rattle.aw_law_sites.specs.Sites.{Site}
use Rattle.aw_law_sites.specs.InOrder.{has_ref}

-- a reference of the sender's own, which is no left side in the message yet
abbrev pub may_give : Grammar → Site → List Ref → Ref → Bool
may_give g s seen r = nat_eq (home g r.node) s.role && not (has_ref r seen)

-- the equation that a reference gives, and the references behind it
pub record Given : Type 0 where
  pub equation : Equation
  pub rest : List Ref

-- the equation of a reference that may give it, or what later ones give
abbrev pub given_on : Bool → Ref → Option Body → List Ref → Option Given → Option Given
given_on true r (Some b) rs later = Some (record { equation = record { left = r; body = b }; rest = rs })
given_on true r None rs later = later
given_on false r b rs later = later

-- the first of these references that gives its equation
abbrev pub next_given : Grammar → Site → List Ref → List Ref → Option Given
next_given g s seen [] = None
next_given g s seen (r ∷ rs) = given_on (may_give g s seen r) r (find s.equations r) rs (next_given g s seen rs)

-- From these references, depth first: a reference that gives its equation, then the references of its body, then those behind it. At most n equations.
abbrev pub walk : ℕ → Grammar → Site → List Ref → List Ref → List Equation
walk zero g s seen rs = []
walk (suc n) g s seen rs = elim (next_given g s seen rs) [
  | None ↦ []
  | Some d ↦ d.equation ∷ walk n g s (d.equation.left ∷ seen) (mentions d.equation.body ++ d.rest)
]

-- empty where the site sends no loads
abbrev pub load_of : Grammar → Site → List Ref → List Ref → List Equation
load_of g s seen rs = if s.loads then walk most_of_load g s seen rs else []
