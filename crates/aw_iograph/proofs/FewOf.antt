-- A rule of a well-formed grammar has at most 8 of each.
use Rattle.std.proofs.Common.{◌≡◌, ℕ, zero, suc, ◌<◌, ◌≤◌, List, [], ◌∷◌, length, Some, slice_get, sym, subst, arith}
use Rattle.std.proofs.Math.Logic.{∥∥₁_elim}
use Rattle.std.proofs.lemmas.List.{length-map}
use Rattle.std.specs.Coded.{le_prop}
use Rattle.aw_list.proofs.Members.{got_map}
use Rattle.aw_term.specs.Rules as P
use Rattle.aw_term.specs.Choices.{gives_of}
use Rattle.aw_term.specs.WellFormed.{Each, takes_of, SortFits, RuleFits, ChildFits, variables}
use Rattle.aw_term.specs.Views.{pattern_of, term_of}
use Rattle.aw_term.specs.Limits.{most_inherited, most_results, most_children}
use Rattle.aw_grammar.specs.declared.rule.Rule.{Rule}
use Rattle.aw_grammar.specs.declared.rule.Sort.{Sort}
use Rattle.aw_grammar.specs.declared.grammar.Grammar.{Grammar}
use Rattle.aw_grammar.specs.GrammarView.{rule_of, child_of, sort_of}
use Rattle.aw_grammar.specs.GrammarOf.{grammar_of}
use Rattle.aw_grammar.proofs.Fits.{each_at, each_map_at}
use Rattle.aw_iograph.specs.Small.{IsSmall, HasFew}

pub takes_few : (roles : ℕ) (sorts : List P.Sort) → Each (SortFits roles) sorts → (s : ℕ) → takes_of (slice_get sorts s) ≤ most_inherited
takes_few roles [] fits s = omega arith
takes_few roles (t ∷ ts) fits zero = fits.0.few_takes
takes_few roles (t ∷ ts) fits (suc s) = takes_few roles ts fits.1 s

pub gives_few : (roles : ℕ) (sorts : List P.Sort) → Each (SortFits roles) sorts → (s : ℕ) → gives_of (slice_get sorts s) ≤ most_results
gives_few roles [] fits s = omega arith
gives_few roles (t ∷ ts) fits zero = fits.0.few_gives
gives_few roles (t ∷ ts) fits (suc s) = gives_few roles ts fits.1 s

fit_few : (g : P.Grammar) (r : P.Rule) → Each (SortFits g.roles) g.sorts → RuleFits g r → HasFew r
fit_few g r sorts fits = record {
  patterns = subst (λ n. n ≤ most_inherited) (sym fits.takes) (takes_few g.roles g.sorts sorts r.sort);
  results = subst (λ n. n ≤ most_results) (sym fits.gives) (gives_few g.roles g.sorts sorts r.sort);
  children = fits.few_children;
  args = λ k c e. subst (λ n. n ≤ most_inherited) (sym (each_at (ChildFits g (variables r)) r.children k c fits.children e).takes) (takes_few g.roles g.sorts sorts c.sort);
  outs = λ k c e. subst (λ n. n ≤ most_results) (sym (each_at (ChildFits g (variables r)) r.children k c fits.children e).gives) (gives_few g.roles g.sorts sorts c.sort);
}

few_prop : (r : P.Rule) → IsProp (HasFew r)
few_prop r = hlevel le_prop

pub few_of : (g : Grammar) (n : ℕ) (r : Rule) → slice_get g.rules n ≡ Some r → HasFew (rule_of g.sorts r)
few_of g n r e = ∥∥₁_elim g.well_formed (few_prop (rule_of g.sorts r))
    (λ w. fit_few (grammar_of g) (rule_of g.sorts r) w.sorts (each_map_at (rule_of g.sorts) (RuleFits (grammar_of g)) g.rules n r w.rules e))

pub small_of : (sorts : List Sort) (r : Rule) → HasFew (rule_of sorts r) → IsSmall r
small_of sorts r few = record {
  patterns = subst (λ n. n ≤ most_inherited) (length-map r.patterns pattern_of) few.patterns;
  results = subst (λ n. n ≤ most_results) (length-map r.results term_of) few.results;
  children = subst (λ n. n ≤ most_children) (length-map r.children (child_of sorts)) few.children;
  args = λ k c e. subst (λ n. n ≤ most_inherited) (length-map c.args term_of) (few.args k (child_of sorts c) (got_map (child_of sorts) r.children k c e));
}

pub declared_of : (g : Grammar) (n : ℕ) (r : Rule) → slice_get g.rules n ≡ Some r → r.sort < length g.sorts
declared_of g n r e = ∥∥₁_elim g.well_formed le_prop
    (λ w. subst (λ m. r.sort < m) (length-map g.sorts sort_of) (each_map_at (rule_of g.sorts) (RuleFits (grammar_of g)) g.rules n r w.rules e).declared)
