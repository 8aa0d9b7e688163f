-- The patterns and the expressions of the program, made again of the plain terms that they are seen as.
use Rattle.std.proofs.Common.{◌≡◌, ℕ, List, [], ◌∷◌, refl, sym, ap, ◌∙◌}
use Rattle.aw_term.specs.Trees as P
use Rattle.aw_term.specs.Trees.{Leaf, Made, Nil, More}
use Rattle.aw_term.specs.Rules as R
use Rattle.aw_term.specs.declared.term.Lit.TheVariants as lit
use Rattle.aw_term.specs.declared.term.Pattern as pattern
use Rattle.aw_term.specs.declared.term.Pattern.TheVariants as pattern_variants
use Rattle.aw_term.specs.declared.term.Expr as expr
use Rattle.aw_term.specs.declared.term.Expr.TheVariants as expr_variants
use Rattle.aw_term.specs.Views.{pattern_of, pattern_row, term_of, term_row}

-- the pattern of a term, and the patterns of its parts
abbrev mutual
  pub back_pattern : R.Term → pattern.Pattern
  back_pattern (Leaf x) = pattern.Var x
  back_pattern (Made (P.Con c) ts) = pattern.Con c (back_patterns ts)
  back_pattern (Made (P.Num n) ts) = pattern.Lit (lit.Num n)
  back_pattern (Made (P.Text t) ts) = pattern.Lit (lit.Text t)

  pub back_patterns : P.Trees ℕ → List pattern.Pattern
  back_patterns Nil = []
  back_patterns (More t ts) = back_pattern t ∷ back_patterns ts

-- the expression of a term, and the expressions of its parts
abbrev mutual
  pub back_term : R.Term → expr.Expr
  back_term (Leaf x) = expr.Var x
  back_term (Made (P.Con c) ts) = expr.Con c (back_terms ts)
  back_term (Made (P.Num n) ts) = expr.Lit (lit.Num n)
  back_term (Made (P.Text t) ts) = expr.Lit (lit.Text t)

  pub back_terms : P.Trees ℕ → List expr.Expr
  back_terms Nil = []
  back_terms (More t ts) = back_term t ∷ back_terms ts

-- a pattern is the pattern of the term that it is seen as
mutual
  pub pattern_again : (p : pattern.Pattern) → back_pattern (pattern_of p) ≡ p
  pattern_again (pattern.Var x) = refl
  pattern_again (pattern.Lit (lit.Num n)) = refl
  pattern_again (pattern.Lit (lit.Text t)) = refl
  pattern_again (pattern.Con' c n parts) =
      ap (pattern.Con c) (patterns_again parts ∙ sym (pattern.items_shown-the_row-Pattern-0 n parts))
      ∙ sym (pattern_variants.rolls-Con c _) ∙ ap pattern.roll-Pattern (sym (pattern_variants.outs-Con' c n parts)) ∙ pattern.roll-out-Pattern (pattern.Con' c n parts)

  patterns_again : {n : _} (row : pattern.Row_of-Pattern n) → back_patterns (pattern_row row) ≡ pattern.items-the_row-Pattern n row
  patterns_again pattern.end_of-Pattern = refl
  patterns_again (pattern.more_of-Pattern p rest) = λ i. pattern_again p i ∷ patterns_again rest i

-- an expression is the expression of the term that it is seen as
mutual
  pub term_again : (t : expr.Expr) → back_term (term_of t) ≡ t
  term_again (expr.Var x) = refl
  term_again (expr.Lit (lit.Num n)) = refl
  term_again (expr.Lit (lit.Text t)) = refl
  term_again (expr.Con' c n parts) =
      ap (expr.Con c) (terms_again parts ∙ sym (expr.items_shown-the_row-Expr-0 n parts))
      ∙ sym (expr_variants.rolls-Con c _) ∙ ap expr.roll-Expr (sym (expr_variants.outs-Con' c n parts)) ∙ expr.roll-out-Expr (expr.Con' c n parts)

  terms_again : {n : _} (row : expr.Row_of-Expr n) → back_terms (term_row row) ≡ expr.items-the_row-Expr n row
  terms_again expr.end_of-Expr = refl
  terms_again (expr.more_of-Expr t rest) = λ i. term_again t i ∷ terms_again rest i
