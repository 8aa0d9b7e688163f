-- What a well-formed grammar says of the size of a rule.
use Rattle.std.proofs.Common.{◌≡◌, ℕ, zero, suc, ◌+◌, ◌≤◌, List, [], ◌∷◌, length, map, Some, slice_get, sym, ◌∙◌, arith}
use Rattle.std.proofs.Math.Logic.{∥∥₁_elim}
use Rattle.std.proofs.Math.Nat.{ℕ_set}
use Rattle.std.specs.Coded.{le_prop}
use Rattle.std.proofs.lemmas.List.{length-map}
use Rattle.aw_term.specs.Trees.{join}
use Rattle.aw_term.specs.Rules as P
use Rattle.aw_term.specs.Choices.{gives_of}
use Rattle.aw_term.specs.Views.{pattern_of, term_of}
use Rattle.aw_term.specs.WellFormed.{Each, all_nesting, leaves_of, symbols_of, child_symbols, takes_of, RuleFits, SortFits, IsWellFormed}
use Rattle.aw_term.proofs.Joined.{shallow_join}
use Rattle.aw_term.specs.Limits.{most_inherited, most_results, most_children}
use Rattle.aw_grammar.specs.declared.grammar.Grammar.{Grammar}
use Rattle.aw_grammar.specs.declared.rule.Rule.{Rule}
use Rattle.aw_grammar.specs.GrammarView.{rule_of, child_of}
use Rattle.aw_grammar.specs.GrammarOf.{grammar_of, words_of}
use Rattle.aw_grammar.proofs.Fits.{each_map_at}

few_taken : (roles : ℕ) (sorts : List P.Sort) (s : ℕ) → Each (SortFits roles) sorts → takes_of (slice_get sorts s) ≤ most_inherited
few_taken roles [] s fits = omega arith
few_taken roles (x ∷ xs) zero fits = fits.0.few_takes
few_taken roles (x ∷ xs) (suc s) fits = few_taken roles xs s fits.1

few_given : (roles : ℕ) (sorts : List P.Sort) (s : ℕ) → Each (SortFits roles) sorts → gives_of (slice_get sorts s) ≤ most_results
few_given roles [] s fits = omega arith
few_given roles (x ∷ xs) zero fits = fits.0.few_gives
few_given roles (x ∷ xs) (suc s) fits = few_given roles xs s fits.1

module _ (g : Grammar) (number : ℕ) (rule : Rule) (here : slice_get g.rules number ≡ Some rule) where
  pub rule_fits_at : IsWellFormed (words_of g) (grammar_of g) → RuleFits (grammar_of g) (rule_of g.sorts rule)
  rule_fits_at w = each_map_at (rule_of g.sorts) (RuleFits (grammar_of g)) g.rules number rule w.rules here

  pub patterns_shallow : all_nesting (join (map pattern_of rule.patterns)) ≤ 32
  patterns_shallow = ∥∥₁_elim g.well_formed le_prop (λ w. shallow_join (grammar_of g).arities _ (rule_fits_at w).patterns)

  pub patterns_few : length rule.patterns ≤ most_inherited
  patterns_few =
      ∥∥₁_elim g.well_formed le_prop
      (λ w. omega (arith, (rule_fits_at w).takes, length-map rule.patterns pattern_of, few_taken (grammar_of g).roles (grammar_of g).sorts rule.sort w.sorts))

  pub patterns_taken : length rule.patterns ≡ takes_of (slice_get (grammar_of g).sorts rule.sort)
  patterns_taken = ∥∥₁_elim g.well_formed (ℕ_set _ _) (λ w. sym (length-map rule.patterns pattern_of) ∙ (rule_fits_at w).takes)

  -- the variables that enter in the patterns
  pub leaves_few : length (leaves_of (map pattern_of rule.patterns)) ≤ 64
  leaves_few = ∥∥₁_elim g.well_formed le_prop (λ w. omega (arith, (rule_fits_at w).few_variables))

  pub children_few : length rule.children ≤ most_children
  children_few = ∥∥₁_elim g.well_formed le_prop (λ w. omega (arith, (rule_fits_at w).few_children, length-map rule.children (child_of g.sorts)))

  pub results_few : length rule.results ≤ most_results
  results_few =
      ∥∥₁_elim g.well_formed le_prop
      (λ w. omega (arith, (rule_fits_at w).gives, length-map rule.results term_of, few_given (grammar_of g).roles (grammar_of g).sorts rule.sort w.sorts))

  pub symbols_few : child_symbols (rule_of g.sorts rule).children + symbols_of (map term_of rule.results) ≤ 256
  symbols_few = ∥∥₁_elim g.well_formed le_prop (λ w. omega (arith, (rule_fits_at w).few_symbols))
