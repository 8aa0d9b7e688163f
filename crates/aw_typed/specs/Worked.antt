-- A small case on which the definitions of types are tried.
use Rattle.std.specs.Prelude.{◌≡◌, ℕ, Bool, true, false, ◌&&◌, List, [], ◌∷◌, Option, Some, None, codes}
use Rattle.aw_term.specs.Trees.{Num, Text, Made, Nil}
use Rattle.aw_term.specs.Names.{Node, root, below}
use Rattle.aw_term.specs.Rules.{Ground, Grammar}
use Rattle.aw_term.specs.Configs.{Config}
use Rattle.aw_term.specs.Choices.{Choice, Start, Develop, or_same, undivided}
use Rattle.aw_iograph.specs.Occurrences.{given}
use Rattle.aw_typed.specs.Clinic.{clinic}
use Rattle.aw_typed.specs.Types.{Shape, Carry, Types, takes, gives, AreFor}
use Rattle.aw_typed.specs.Fitting.{all_fit}
use Rattle.aw_typed.specs.TypeFaults.{InRule, NoShape, type_fault, arg_ok}
use Rattle.aw_typed.specs.WellTyped.{hole_has}

-- a shape, and a carry
abbrev shape : List ℕ → ℕ → Option Shape
shape parts own = Some (record { parts = parts; own = own })

-- a carry that is declared
abbrev carry : List ℕ → List ℕ → Option Carry
carry takes gives = Some (record { takes = takes; gives = gives })

-- type sample · type result · type card
--   shape blood (text) sample · shape report (text, result) card · shape found (text, num) result · shape none () result
--   carry visit ()<card> · carry test (sample)<result>
abbrev pub types_with : Option Shape → Option Shape → Types
types_with found none = record {
  typed = true;
  names = 3;
  shapes = shape (1 ∷ []) 2 ∷ shape (1 ∷ 3 ∷ []) 4 ∷ found ∷ none ∷ [];
  carries = carry [] (4 ∷ []) ∷ carry (2 ∷ []) (3 ∷ []) ∷ [];
}

-- the types as they are written above
abbrev pub types : Types
types = types_with (shape (1 ∷ 0 ∷ []) 3) (shape [] 3)

-- these types have no fault
abbrev pub NoFault : Type 0
NoFault = AreFor clinic types × (type_fault types clinic ≡ None)

-- with `shape found (num, num) result`
abbrev pub MisfitIsTold : Type 0
MisfitIsTold = type_fault (types_with (shape (0 ∷ 0 ∷ []) 3) (shape [] 3)) clinic ≡ Some (InRule 1 (given 0 1))

-- without the shape of none
abbrev pub GapIsTold : Type 0
GapIsTold = type_fault (types_with (shape (1 ∷ 0 ∷ []) 3) None) clinic ≡ Some (NoShape 3)

-- a visit, two arguments, and a run of three choices
abbrev visit : Node
visit = root 0 1

-- the argument `"Ada"`
abbrev ada : Ground
ada = Made (Text (codes "Ada")) Nil

-- the argument n
abbrev number : ℕ → Ground
number n = Made (Num n) Nil

-- `admit {"Ada"}` fits, `admit {7}` does not, and `admit {}` is for the answer to tell
abbrev pub ArgumentsFit : Type 0
ArgumentsFit = (arg_ok types clinic (Develop visit 0 (ada ∷ [])) ≡ true) × (arg_ok types clinic (Develop visit 0 (number 7 ∷ [])) ≡ false) × (arg_ok types clinic (Develop visit 0 []) ≡ true)

-- start visit 1, choose visit#1 admit with the one argument, choose visit#1/admit.1 analyse with the other
abbrev pub choices_with : Ground → Ground → List Choice
choices_with who found = Start 0 1 ∷ Develop visit 0 (who ∷ []) ∷ Develop (below visit 0 1) 1 (found ∷ []) ∷ []

-- what such a run leads to
abbrev pub config_with : Ground → Ground → Config
config_with who found = or_same [] (undivided clinic [] (choices_with who found))

-- each row fits what its sort carries
abbrev pub rows_typed : Types → Grammar → Config → Bool
rows_typed t g [] = true
rows_typed t g (q ∷ qs) = all_fit t (hole_has t g) (takes t q.sort) q.inherited && (all_fit t (hole_has t g) (gives t q.sort) q.results && rows_typed t g qs)

-- each configuration of start, admit {"Ada"}, analyse {5} is typed, with a hole and without
abbrev pub RunIsTyped : Type 0
RunIsTyped =
    (undivided clinic [] (choices_with ada (number 5)) ≡ Some (config_with ada (number 5))) × (rows_typed types clinic (config_with ada (number 5)) ≡ true)
    × (rows_typed types clinic (or_same [] (undivided clinic [] (Start 0 1 ∷ Develop visit 0 (ada ∷ []) ∷ []))) ≡ true)

-- with an argument that does not fit it is not
abbrev pub OtherRunIsNot : Type 0
OtherRunIsNot = (undivided clinic [] (choices_with ada ada) ≡ Some (config_with ada ada)) × (rows_typed types clinic (config_with ada ada) ≡ false)
