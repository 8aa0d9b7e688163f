-- A grammar stays well formed where some of its rules are left out.
use Rattle.std.proofs.Common.{◌≡◌, ◌≢◌, ℕ, Bool, true, false, cond, List, [], ◌∷◌, map, refl, ap, ◌∙◌, arith}
use Rattle.std.specs.Prelude.{filter}
use Rattle.std.proofs.lemmas.List.{length-map}
use Rattle.std.proofs.lemmas.List.Sums.{length-filter, count_by-le-length}
use Rattle.aw_spelling.specs.Spelling.{is_name}
use Rattle.aw_term.specs.Rules as P
use Rattle.aw_term.specs.Rules.{some_rules}
use Rattle.aw_term.specs.WellFormed.{RuleFits}
use Rattle.aw_term.proofs.Eaches.{each_map, each_filter, each_kept, later_filter}
use Rattle.aw_grammar.specs.declared.rule.Con.{Con}
use Rattle.aw_grammar.specs.declared.rule.Sort.{Sort}
use Rattle.aw_grammar.specs.declared.rule.Rule.{Rule}
use Rattle.aw_grammar.specs.GrammarView.{rule_of, plain_grammar}
use Rattle.aw_grammar.specs.Variables.{VariablesFit, AllVariablesFit}
use Rattle.aw_grammar.proofs.Counted.{rules_counted}
use Rattle.aw_grammar.proofs.Growth.{four_from, four_to}
use Rattle.aw_grammar.proofs.Added.{Good}
use Rattle.aw_grammar.proofs.GoodRule.{other_rules}

-- the rules of which a test holds, with the same roles, constructors and sorts
pub good_some : (roles : List (List ℕ)) (cons : List Con) (sorts : List Sort) (rules : List Rule) (p : Rule → Bool) → Good roles cons sorts rules → Good roles cons sorts (filter p rules)
good_some roles cons sorts rules p w =
    let con_names = map (λ (c : Con). c.name) cons in
    let sort_names = map (λ (s : Sort). s.name) sorts in
    let rule_names = map (λ (r : Rule). r.name) rules in
    let names = four_from (λ n. is_name n ≡ true) roles con_names sort_names rule_names w.names in
    let fewer = filter p rules in
    record {
      roles = refl;
      all_cons = w.all_cons;
      all_sorts = w.all_sorts;
      all_rules = rules_counted sorts fewer;
      few_roles = w.few_roles;
      few_cons = w.few_cons;
      few_sorts = w.few_sorts;
      few_rules = omega (arith, w.few_rules, length-map rules (λ (r : Rule). r.name), length-map fewer (λ (r : Rule). r.name), length-filter p rules, count_by-le-length p rules);
      names = four_to (λ n. is_name n ≡ true) roles con_names sort_names (map (λ (r : Rule). r.name) fewer) names.roles_fit names.cons_fit names.sorts_fit
          (each_filter (λ n. is_name n ≡ true) (λ (r : Rule). r.name) p rules names.rules_fit);
      roles_differ = w.roles_differ;
      cons_differ = w.cons_differ;
      sorts_differ = w.sorts_differ;
      rules_differ = later_filter (λ a b. a ≢ b) (λ (r : Rule). r.name) p rules w.rules_differ;
      arities = w.arities;
      sorts = w.sorts;
      rules = each_map (RuleFits (plain_grammar roles cons sorts rules)) (RuleFits (plain_grammar roles cons sorts fewer)) (map (rule_of sorts) fewer)
          (λ u h. other_rules roles cons sorts rules fewer u h) (each_filter (RuleFits (plain_grammar roles cons sorts rules)) (rule_of sorts) p rules w.rules);
    }

-- so do the variables of the rules
pub variables_some : (cons : List Con) (sorts : List Sort) (rules : List Rule) (p : Rule → Bool) → AllVariablesFit cons sorts rules → AllVariablesFit cons sorts (filter p rules)
variables_some cons sorts rules p fit = each_kept (λ (r : Rule). VariablesFit (map (λ (c : Con). c.name) cons) r.vars (rule_of sorts r)) p rules fit

shown_cases : (sorts : List Sort) (b : Bool) (r : Rule) (rs : List Rule) → map (rule_of sorts) (cond b (r ∷ rs) rs) ≡ cond b (rule_of sorts r ∷ map (rule_of sorts) rs) (map (rule_of sorts) rs)
shown_cases sorts true r rs = refl
shown_cases sorts false r rs = refl

shown_filter : (sorts : List Sort) (q : P.Rule → Bool) (rules : List Rule) → map (rule_of sorts) (filter (λ r. q (rule_of sorts r)) rules) ≡ filter q (map (rule_of sorts) rules)
shown_filter sorts q [] = refl
shown_filter sorts q (r ∷ rs) =
    let b = q (rule_of sorts r) in
    shown_cases sorts b r (filter (λ r. q (rule_of sorts r)) rs) ∙ ap (λ us. cond b (rule_of sorts r ∷ us) us) (shown_filter sorts q rs)

-- they make the plain grammar of those of its rules
pub shown_some : (roles : List (List ℕ)) (cons : List Con) (sorts : List Sort) (rules : List Rule) (q : P.Rule → Bool) →
    plain_grammar roles cons sorts (filter (λ r. q (rule_of sorts r)) rules) ≡ some_rules q (plain_grammar roles cons sorts rules)
shown_some roles cons sorts rules q = ap (λ rs. record (plain_grammar roles cons sorts rules) { rules = rs }) (shown_filter sorts q rules)
