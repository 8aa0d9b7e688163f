-- The program's bodies and equations as plain ones.
use Rattle.std.specs.Prelude.{[]}
use Rattle.aw_term.specs.Trees as T
use Rattle.aw_store.specs.Equations as P
use Rattle.aw_store.specs.declared.equation.Body.{Body}
use Rattle.aw_store.specs.declared.equation.Body.TheVariants.{Same, Con, Num, Text}
use Rattle.aw_store.specs.declared.equation.Equation.{Equation}

-- a body of the program as the plain one: a number and a text have no references
abbrev pub body_of : Body → P.Body
body_of (Same r) = P.Same r
body_of (Con c parts) = P.Is (T.Con c) parts
body_of (Num n) = P.Is (T.Num n) []
body_of (Text t) = P.Is (T.Text t) []

-- an equation of the program as the plain one
abbrev pub equation_of : Equation → P.Equation
equation_of e = record { left = e.left; body = body_of e.body }
