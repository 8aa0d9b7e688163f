-- Types of the program as the plain definitions speak of them, and what refusals say.
use Rattle.std.specs.Prelude.{◌≡◌, ℕ, ◌+◌, ◌<◌, map, length, Option, Some, None, option_map}
use Rattle.aw_term.specs.Rules.{Grammar}
use Rattle.aw_term.specs.WellFormed.{Each}
use Rattle.aw_typed.specs.Types as T
use Rattle.aw_typed.specs.TypeFaults as F
use Rattle.aw_typed.specs.declared.data.Shape.{Shape}
use Rattle.aw_typed.specs.declared.data.Carry.{Carry}
use Rattle.aw_typed.specs.declared.data.Types.{Types}
use Rattle.aw_typed.specs.declared.data.Typed.{Typed}
use Rattle.aw_typed.specs.declared.data.TypeFault.{TypeFault}
use Rattle.aw_typed.specs.declared.data.TypeFault.TheVariants.{NoShape, NoCarry, Rule, NoMemory}

-- a shape, a carry and types of the program as the plain ones
abbrev pub shape_of : Shape → T.Shape
shape_of x = record { parts = x.parts; own = x.own }

-- a carry of the program as the plain one
abbrev pub carry_of : Carry → T.Carry
carry_of k = record { takes = k.takes; gives = k.gives }

-- types of the program as the plain ones, with their number for their names
abbrev pub types_of : Types → T.Types
types_of t = record { typed = t.typed; names = length t.names; shapes = map (λ o. option_map shape_of o) t.shapes; carries = map (λ o. option_map carry_of o) t.carries }

-- the types of a shape are below n
abbrev pub ShapeInRange : ℕ → Option T.Shape → Type 0
ShapeInRange n None = Unit {0}
ShapeInRange n (Some x) = (x.own < n) × Each (λ t. t < n) x.parts

-- the types of a carry are below n
abbrev pub CarryInRange : ℕ → Option T.Carry → Type 0
CarryInRange n None = Unit {0}
CarryInRange n (Some k) = Each (λ t. t < n) k.takes × Each (λ t. t < n) k.gives

-- each type that is used is num, text or declared
pub record NumbersInRange (t : T.Types) : Type 0 where
  pub shapes : Each (ShapeInRange (2 + t.names)) t.shapes
  pub carries : Each (CarryInRange (2 + t.names)) t.carries

-- types that were checked for this grammar: there is no fault in them, and each rule's parameters have these types
pub record IsMadeFor (g : Grammar) (y : Typed) : Type 0 where
  pub sizes : T.AreFor g (types_of y.types)
  pub none : F.type_fault (types_of y.types) g ≡ None
  pub params : y.params ≡ map (F.param_types (types_of y.types)) g.rules

-- the refusal tells the first fault, unless memory ran out
abbrev pub TellsTypes : T.Types → Grammar → TypeFault → Type 0
TellsTypes t g (NoShape con) = F.type_fault t g ≡ Some (F.NoShape con)
TellsTypes t g (NoCarry sort) = F.type_fault t g ≡ Some (F.NoCarry sort)
TellsTypes t g (Rule rule place) = F.type_fault t g ≡ Some (F.InRule rule place)
TellsTypes t g NoMemory = Unit {0}
