-- What is laid down and made, as the plain definitions speak of it.
use Rattle.std.specs.Prelude.{◌≡◌, ℕ, zero, suc, ◌+◌, List, [], ◌∷◌, ◌++◌, map, Some, slice_get}
use Rattle.aw_term.specs.Trees.{Con}
use Rattle.aw_term.specs.Names.{Node, Ref, part}
use Rattle.aw_term.specs.Rules.{Term, Child, Rule, Grammar, get}
use Rattle.aw_store.specs.Equations.{Body, Is, Map}
use Rattle.aw_store.specs.EquationView.{equation_of}
use Rattle.aw_store.specs.declared.equation.Equation.{Equation}
use Rattle.aw_apply.specs.Made.{Laid, Call, Making, lay_result, lay_children, no_ref}
use Rattle.aw_apply.specs.declared.laid.LaidAll.{LaidAll}
use Rattle.aw_apply.specs.declared.making.MadeChild.{MadeChild}
use Rattle.aw_apply.specs.declared.children.Called.{Called}

-- what stands for some trees, with all equations so far
abbrev pub all_of : Map → LaidAll → Laid (List Ref)
all_of es l = record { roots = l.roots.items; equations = es; next = l.next }

-- one equation, whose left side is part k of a node
abbrev pub lone : Node → ℕ → Body → Laid Ref
lone node k b = record { roots = part node k; equations = record { left = part node k; body = b } ∷ []; next = k + 1 }

-- laid down behind these equations
abbrev pub laid_behind : {A : Type 0} → Map → Laid A → Laid A
laid_behind es a = record { roots = a.roots; equations = es ++ a.equations; next = a.next }

-- behind the old equations these were laid down, and several things stand for them
abbrev pub AreLaid : List Equation → List Equation → LaidAll → Laid (List Ref) → Type 0
AreLaid old new l laid = all_of (map equation_of new) l ≡ laid_behind (map equation_of old) laid

-- one more laid down behind these
abbrev pub with_one : {A : Type 0} → Laid (List A) → Laid A → Laid (List A)
with_one a b = record { roots = a.roots ++ b.roots ∷ []; equations = a.equations ++ b.equations; next = b.next }

-- behind the old equations one thing more was laid down, and it stands behind those before
abbrev pub AreMore : List Equation → List Equation → LaidAll → LaidAll → Laid Ref → Type 0
AreMore old new a b one = all_of (map equation_of new) b ≡ with_one (all_of (map equation_of old) a) one

-- the equation at a place has this body, and each other stays
abbrev pub with_body : ℕ → Body → Map → Map
with_body i b [] = []
with_body zero b (e ∷ es) = record { left = e.left; body = b } ∷ es
with_body (suc i) b (e ∷ es) = e ∷ with_body i b es

-- a child, without its sort
abbrev pub as_child : Call → MadeChild
as_child c = record { node = c.node; inherited = c.inherited }

-- the children that were laid down, without their sorts
abbrev pub as_children : Laid (List Call) → Laid (List MadeChild)
as_children l = record { roots = map as_child l.roots; equations = l.equations; next = l.next }

-- all children of a rule, with these references for the variables, and parts from k on
abbrev pub all_children : Node → ℕ → List Ref → ℕ → List Child → Laid (List MadeChild)
all_children n r refs k children = as_children (lay_children n r (get (no_ref n) refs) 1 k children)

-- result j, with these references for the variables, and parts from k on
abbrev pub result_laid : Node → List Ref → ℕ → ℕ → Term → Laid (Unit {0})
result_laid n refs k j t = lay_result n (get (no_ref n) refs) k j t

-- the equation of a constructor over what was laid down for its parts, and theirs
abbrev pub con_equations : Ref → ℕ → Laid (List Ref) → Map
con_equations left con all = record { left = left; body = Is (Con con) all.roots } ∷ all.equations

-- so it is of the rule with this number, where there is one
abbrev pub OfRule : Grammar → ℕ → (Rule → Type 0) → Type 0
OfRule g number P = (r : Rule) → slice_get g.rules number ≡ Some r → P r

-- the children that were called, with all equations so far
abbrev pub called_of : Map → Called → Laid (List MadeChild)
called_of es c = record { roots = c.children.items; equations = es; next = c.next }

-- behind the old equations the inherited values of these children were laid down
abbrev pub AreCalled : List Equation → List Equation → Called → Laid (List MadeChild) → Type 0
AreCalled old new c laid = called_of (map equation_of new) c ≡ laid_behind (map equation_of old) laid

-- The arguments were laid down behind the old equations. Their references, and then these, stand behind those that were bound.
pub record HasEntered (old new : List Equation) (bound all : List Ref) (next : ℕ) (a : Laid (List Ref)) (more : List Ref) : Type 0 where
  pub laid : map equation_of new ≡ map equation_of old ++ a.equations
  pub known : all ≡ bound ++ (a.roots ++ more)
  pub numbered : next ≡ a.next

-- behind the old equations are those of this, and these are its children
pub record IsMade (old new : List Equation) (given : List MadeChild) (m : Making) : Type 0 where
  pub equations : map equation_of new ≡ map equation_of old ++ m.equations
  pub children : given ≡ map as_child m.calls
