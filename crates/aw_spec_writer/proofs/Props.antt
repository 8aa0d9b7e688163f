-- That a grammar is well formed, and that its variables have names, are mere facts.
use Rattle.std.proofs.Common.{◌≡◌, ◌≢◌, ℕ, ◌<◌, ◌≤◌, true, List, [], ◌∷◌, ◌++◌, refl, false, map}
use Rattle.std.proofs.Math.Nat.{ℕ_set}
use Rattle.std.proofs.Math.Bool.{Bool-set}
use Rattle.std.specs.Coded.{le_prop}
use mathlib.Core.List.{is_set}
use Rattle.aw_spelling.specs.Spelling.{is_name}
use Rattle.aw_name_index.specs.Places.{stands}
use Rattle.aw_term.specs.Trees.{Tree}
use Rattle.aw_term.specs.Rules as P
use Rattle.aw_term.specs.Artifacts.{Words}
use Rattle.aw_term.specs.WellFormed.{Each, Later, Differ, TermFits, ChildFits, RuleFits, SortFits, IsWellFormed, leaves_of, variables}
use Rattle.aw_grammar.specs.declared.rule.Con.{Con}
use Rattle.aw_grammar.specs.declared.rule.Sort.{Sort}
use Rattle.aw_grammar.specs.declared.rule.Rule.{Rule}
use Rattle.aw_grammar.specs.GrammarView.{rule_of}
use Rattle.aw_grammar.specs.Variables.{VariablesFit, AllVariablesFit}

each_prop : {A : Type 0} (P : A → Type 0) → ((x : A) → IsProp (P x)) → (xs : List A) → IsProp (Each P xs)
each_prop P h [] = λ a b. refl
each_prop P h (x ∷ xs) = λ a b i. (h x a.0 b.0 i, each_prop P h xs a.1 b.1 i)

later_prop : {A : Type 0} (R : A → A → Type 0) → ((x y : A) → IsProp (R x y)) → (xs : List A) → IsProp (Later R xs)
later_prop R h [] = λ a b. refl
later_prop R h (x ∷ xs) = λ a b i. (each_prop (R x) (h x) xs a.0 b.0 i, later_prop R h xs a.1 b.1 i)

apart_prop : (x y : List ℕ) → IsProp (x ≢ y)
apart_prop x y = λ a b i e. let same : a e ≡ b e = absurd (a e) in same i

differ_prop : (names : List (List ℕ)) → IsProp (Differ names)
differ_prop names = later_prop (λ a b. a ≢ b) apart_prop names

term_prop : (arities : List ℕ) (t : Tree ℕ) → IsProp (TermFits arities t)
term_prop arities t = λ a b i. record { heads = Bool-set _ _ a.heads b.heads i; depth = le_prop a.depth b.depth i }

child_prop : (g : P.Grammar) (n : ℕ) (c : P.Child) → IsProp (ChildFits g n c)
child_prop g n c = λ a b i. record {
  declared = le_prop a.declared b.declared i;
  takes = ℕ_set _ _ a.takes b.takes i;
  gives = ℕ_set _ _ a.gives b.gives i;
  terms = each_prop (TermFits g.arities) (term_prop g.arities) c.args a.terms b.terms i;
  enter = each_prop (λ v. v < n) (λ v. le_prop) (leaves_of c.args) a.enter b.enter i;
}

rule_prop : (g : P.Grammar) (r : P.Rule) → IsProp (RuleFits g r)
rule_prop g r = λ a b i. record {
  declared = le_prop a.declared b.declared i;
  takes = ℕ_set _ _ a.takes b.takes i;
  gives = ℕ_set _ _ a.gives b.gives i;
  few_params = le_prop a.few_params b.few_params i;
  few_children = le_prop a.few_children b.few_children i;
  few_variables = le_prop a.few_variables b.few_variables i;
  few_symbols = le_prop a.few_symbols b.few_symbols i;
  numbered = is_set ℕ_set _ _ a.numbered b.numbered i;
  patterns = each_prop (TermFits g.arities) (term_prop g.arities) r.patterns a.patterns b.patterns i;
  results = each_prop (TermFits g.arities) (term_prop g.arities) r.results a.results b.results i;
  enter = each_prop (λ v. v < variables r) (λ v. le_prop) (leaves_of r.results) a.enter b.enter i;
  children = each_prop (ChildFits g (variables r)) (child_prop g (variables r)) r.children a.children b.children i;
}

sort_prop : (roles : ℕ) (s : P.Sort) → IsProp (SortFits roles s)
sort_prop roles s = λ a b i. record {
  declared = le_prop a.declared b.declared i;
  few_takes = le_prop a.few_takes b.few_takes i;
  few_gives = le_prop a.few_gives b.few_gives i;
  start = λ e. ℕ_set _ _ (a.start e) (b.start e) i;
}

pub formed_prop : (w : Words) (g : P.Grammar) → IsProp (IsWellFormed w g)
formed_prop w g = λ a b i. record {
  roles = ℕ_set _ _ a.roles b.roles i;
  all_cons = ℕ_set _ _ a.all_cons b.all_cons i;
  all_sorts = ℕ_set _ _ a.all_sorts b.all_sorts i;
  all_rules = ℕ_set _ _ a.all_rules b.all_rules i;
  few_roles = le_prop a.few_roles b.few_roles i;
  few_cons = le_prop a.few_cons b.few_cons i;
  few_sorts = le_prop a.few_sorts b.few_sorts i;
  few_rules = le_prop a.few_rules b.few_rules i;
  names = each_prop (λ n. is_name n ≡ true) (λ n. Bool-set _ _) (w.roles ++ (w.cons ++ (w.sorts ++ w.rules))) a.names b.names i;
  roles_differ = differ_prop w.roles a.roles_differ b.roles_differ i;
  cons_differ = differ_prop w.cons a.cons_differ b.cons_differ i;
  sorts_differ = differ_prop w.sorts a.sorts_differ b.sorts_differ i;
  rules_differ = differ_prop w.rules a.rules_differ b.rules_differ i;
  arities = each_prop (λ n. n ≤ 8) (λ n. le_prop) g.arities a.arities b.arities i;
  sorts = each_prop (SortFits g.roles) (sort_prop g.roles) g.sorts a.sorts b.sorts i;
  rules = each_prop (RuleFits g) (rule_prop g) g.rules a.rules b.rules i;
}

variables_prop : (cons vars : List (List ℕ)) (r : P.Rule) → IsProp (VariablesFit cons vars r)
variables_prop cons vars r = λ a b i. record {
  count = ℕ_set _ _ a.count b.count i;
  differ = differ_prop vars a.differ b.differ i;
  free = each_prop (λ v. stands v cons ≡ false) (λ v. Bool-set _ _) vars a.free b.free i;
  names = each_prop (λ v. is_name v ≡ true) (λ v. Bool-set _ _) vars a.names b.names i;
}

pub named_prop : (cons : List Con) (sorts : List Sort) (rules : List Rule) → IsProp (AllVariablesFit cons sorts rules)
named_prop cons sorts rules = each_prop _ (λ (r : Rule). variables_prop (map (λ (c : Con). c.name) cons) r.vars (rule_of sorts r)) rules
