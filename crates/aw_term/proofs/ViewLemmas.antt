-- The views at a constructor with parts.
use Rattle.std.specs.Prelude.{◌≡◌, ℕ, List, map}
use Rattle.std.proofs.Common.{refl, ap, ◌∙◌}
use Rattle.aw_term.specs.Trees as P
use Rattle.aw_term.specs.Trees.{Leaf, Made, Nil, More, join}
use Rattle.aw_term.specs.declared.term.Pattern as pattern
use Rattle.aw_term.specs.declared.term.Pattern.TheBlock as pattern_block
use Rattle.aw_term.specs.declared.term.Expr as expr
use Rattle.aw_term.specs.declared.term.Expr.TheBlock as expr_block
use Rattle.aw_term.specs.declared.ground.Ground as grounds
use Rattle.aw_term.specs.declared.ground.Ground.TheBlock as ground_block
use Rattle.aw_term.specs.Views.{pattern_of, pattern_row, term_of, term_row, ground_of, ground_row}

pattern_row_list : (m : _) (row : pattern.Row_of-Pattern m) → pattern_row row ≡ join (map pattern_of (pattern.items-the_row-Pattern m row))
pattern_row_list _ pattern.end_of-Pattern = refl
pattern_row_list _ (pattern.more_of-Pattern p rest) = ap (More (pattern_of p)) (pattern_row_list _ rest)

pub pattern_con : (c : ℕ) (ps : List pattern.Pattern) → pattern_of (pattern.Con c ps) ≡ Made (P.Con c) (join (map pattern_of ps))
pattern_con c ps = ap (Made (P.Con c)) (pattern_row_list _ (pattern_block.hidden-the_row-Pattern-0 ps) ∙ ap (λ qs. join (map pattern_of qs)) (pattern.items_hidden-the_row-Pattern-0 ps))

term_row_list : (m : _) (row : expr.Row_of-Expr m) → term_row row ≡ join (map term_of (expr.items-the_row-Expr m row))
term_row_list _ expr.end_of-Expr = refl
term_row_list _ (expr.more_of-Expr p rest) = ap (More (term_of p)) (term_row_list _ rest)

pub term_con : (c : ℕ) (ps : List expr.Expr) → term_of (expr.Con c ps) ≡ Made (P.Con c) (join (map term_of ps))
term_con c ps = ap (Made (P.Con c)) (term_row_list _ (expr_block.hidden-the_row-Expr-0 ps) ∙ ap (λ qs. join (map term_of qs)) (expr.items_hidden-the_row-Expr-0 ps))

ground_row_list : (m : _) (row : grounds.Row_of-Ground m) → ground_row row ≡ join (map ground_of (grounds.items-the_row-Ground m row))
ground_row_list _ grounds.end_of-Ground = refl
ground_row_list _ (grounds.more_of-Ground p rest) = ap (More (ground_of p)) (ground_row_list _ rest)

pub ground_con : (c : ℕ) (ps : List grounds.Ground) → ground_of (grounds.Con c ps) ≡ Made (P.Con c) (join (map ground_of ps))
ground_con c ps = ap (Made (P.Con c)) (ground_row_list _ (ground_block.hidden-the_row-Ground-0 ps) ∙ ap (λ qs. join (map ground_of qs)) (grounds.items_hidden-the_row-Ground-0 ps))
