-- The constructors in the patterns of a rule have few parts.
use Rattle.std.proofs.Common.{◌≡◌, ℕ, zero, suc, ◌≤◌, true, List, [], ◌∷◌, map, Some, slice_get, refl, arith}
use Rattle.std.proofs.Math.Logic.{∥∥₁_elim}
use Rattle.std.proofs.Math.Bool.{Bool-set}
use Rattle.std.proofs.lemmas.Bool.{eqb-true, le-leb, and_parts, and_from}
use Rattle.aw_term.specs.Trees.{Head, Con, Num, Text, Tree, Leaf, Made, Trees, Nil, More, count, join}
use Rattle.aw_term.specs.Views.{pattern_of}
use Rattle.aw_term.specs.WellFormed.{Each, head_fits, heads_fit, all_heads_fit, TermFits}
use Rattle.aw_term.specs.Limits.{most_parts}
use Rattle.aw_grammar.specs.declared.grammar.Grammar.{Grammar}
use Rattle.aw_grammar.specs.declared.rule.Rule.{Rule}
use Rattle.aw_grammar.specs.GrammarOf.{grammar_of}
use Rattle.aw_grammar.proofs.RuleSizes.{rule_fits_at}
use Rattle.aw_plain.specs.Narrow.{is_narrow, are_narrow}

few_parts : (arities : List ℕ) (c n : ℕ) → Each (λ m. m ≤ most_parts) arities → head_fits arities (Con c) n ≡ true → n ≤ most_parts
few_parts [] c n few e = absurd cc
few_parts (m ∷ ms) zero n few e = omega (arith, few.0, eqb-true m n e)
few_parts (m ∷ ms) (suc c) n few e = few_parts ms c n few.1 e

few_below : (arities : List ℕ) (h : Head) (n : ℕ) → Each (λ m. m ≤ most_parts) arities → head_fits arities h n ≡ true → n ≤ most_parts
few_below arities (Con c) n few e = few_parts arities c n few e
few_below arities (Num m) n few e = omega (arith, eqb-true n 0 e)
few_below arities (Text t) n few e = omega (arith, eqb-true n 0 (and_parts _ _ e).0)

mutual
  narrow : {A : Type 0} (arities : List ℕ) (t : Tree A) → Each (λ m. m ≤ most_parts) arities → heads_fit arities t ≡ true → is_narrow t ≡ true
  narrow arities (Leaf x) few e = refl
  narrow arities (Made h ts) few e =
      and_from _ _ (le-leb (count ts) most_parts (few_below arities h (count ts) few (and_parts _ _ e).0)) (all_narrow arities ts few (and_parts (head_fits arities h (count ts)) _ e).1)

  all_narrow : {A : Type 0} (arities : List ℕ) (ts : Trees A) → Each (λ m. m ≤ most_parts) arities → all_heads_fit arities ts ≡ true → are_narrow ts ≡ true
  all_narrow arities Nil few e = refl
  all_narrow arities (More t ts) few e = and_from _ _ (narrow arities t few (and_parts _ _ e).0) (all_narrow arities ts few (and_parts (heads_fit arities t) _ e).1)

terms_narrow : {A : Type 0} (arities : List ℕ) (ts : List (Tree A)) → Each (λ m. m ≤ most_parts) arities → Each (TermFits arities) ts → are_narrow (join ts) ≡ true
terms_narrow arities [] few fits = refl
terms_narrow arities (t ∷ ts) few fits = and_from _ _ (narrow arities t few fits.0.heads) (terms_narrow arities ts few fits.1)

module _ (g : Grammar) (number : ℕ) (rule : Rule) (here : slice_get g.rules number ≡ Some rule) where
  pub patterns_narrow : are_narrow (join (map pattern_of rule.patterns)) ≡ true
  patterns_narrow = ∥∥₁_elim g.well_formed (Bool-set _ _) (λ w. terms_narrow (grammar_of g).arities _ w.arities (rule_fits_at g number rule here w).patterns)
