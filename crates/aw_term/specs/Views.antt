-- The program's terms and arguments as plain trees.
use Rattle.std.specs.Prelude.{ℕ}
use Rattle.aw_term.specs.Trees as P
use Rattle.aw_term.specs.Trees.{Leaf, Made, Nil, More}
use Rattle.aw_term.specs.Rules as R
use Rattle.aw_term.specs.declared.term.Lit.{Lit}
use Rattle.aw_term.specs.declared.term.Lit.TheVariants as lit
use Rattle.aw_term.specs.declared.term.Pattern.{Pattern, Row_of-Pattern, end_of-Pattern, more_of-Pattern}
use Rattle.aw_term.specs.declared.term.Pattern as pattern
use Rattle.aw_term.specs.declared.term.Expr.{Expr, Row_of-Expr, end_of-Expr, more_of-Expr}
use Rattle.aw_term.specs.declared.term.Expr as expr
use Rattle.aw_term.specs.declared.ground.Ground.{Ground, Row_of-Ground, end_of-Ground, more_of-Ground}
use Rattle.aw_term.specs.declared.ground.Ground as grounds

-- a literal of the program: a number or a text
abbrev pub head_of : Lit → P.Head
head_of (lit.Num n) = P.Num n
head_of (lit.Text t) = P.Text t

-- a pattern of the program as a term, and a row of patterns as the parts of one
abbrev mutual
  pub pattern_of : Pattern → R.Term
  pattern_of (pattern.Var x) = Leaf x
  pattern_of (pattern.Lit l) = Made (head_of l) Nil
  pattern_of (pattern.Con' c n parts) = Made (P.Con c) (pattern_row parts)

  pub pattern_row : {m : _} → Row_of-Pattern m → P.Trees ℕ
  pattern_row end_of-Pattern = Nil
  pattern_row (more_of-Pattern p rest) = More (pattern_of p) (pattern_row rest)

-- an expression of the program as a term, and a row of expressions as the parts of one
abbrev mutual
  pub term_of : Expr → R.Term
  term_of (expr.Var x) = Leaf x
  term_of (expr.Lit l) = Made (head_of l) Nil
  term_of (expr.Con' c n parts) = Made (P.Con c) (term_row parts)

  pub term_row : {m : _} → Row_of-Expr m → P.Trees ℕ
  term_row end_of-Expr = Nil
  term_row (more_of-Expr p rest) = More (term_of p) (term_row rest)

-- an argument of the program as a tree without leaves, and a row of arguments as the parts of one
abbrev mutual
  pub ground_of : Ground → R.Ground
  ground_of (grounds.Num n) = Made (P.Num n) Nil
  ground_of (grounds.Text t) = Made (P.Text t) Nil
  ground_of (grounds.Con' c n parts) = Made (P.Con c) (ground_row parts)

  pub ground_row : {m : _} → Row_of-Ground m → P.Trees P.Never
  ground_row end_of-Ground = Nil
  ground_row (more_of-Ground p rest) = More (ground_of p) (ground_row rest)
