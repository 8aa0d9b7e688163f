-- Equations: what references stand for. A list of equations is read as a finite map, in which the first with a left side counts.
use Rattle.std.specs.Prelude.{List, [], ◌∷◌, Option, Some, None, if◌then◌else◌}
use Rattle.aw_term.specs.Trees.{Head}
use Rattle.aw_term.specs.Names.{Ref}
use Rattle.aw_store.specs.Refs.{ref_eq}

-- a reference is another one, or it is a constructor, a number or a text with references as its parts
pub data Body : Type 0 where
  Same : (to : Ref) → Body
  Is : (head : Head) → (parts : List Ref) → Body

-- what one reference stands for
pub record Equation : Type 0 where
  pub left : Ref
  pub body : Body

-- equations, read as a finite map from references to bodies
abbrev pub Map : Type 0
Map = List Equation

-- the body of a reference, where it has an equation
abbrev pub find : Map → Ref → Option Body
find [] r = None
find (e ∷ es) r = if ref_eq r e.left then Some e.body else find es r

-- the references that stand in a body
abbrev pub mentions : Body → List Ref
mentions (Same r) = r ∷ []
mentions (Is h rs) = rs
