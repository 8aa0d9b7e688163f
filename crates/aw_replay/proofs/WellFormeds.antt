-- A grammar stays well formed where all its sorts are at one role.
use Rattle.std.proofs.Common.{◌≡◌, ℕ, ◌<◌, true, List, [], ◌∷◌, ◌++◌, map, refl, sym, subst, ◌∙◌, arith}
use Rattle.std.proofs.lemmas.List.{length-map}
use Rattle.aw_spelling.specs.Spelling.{is_name}
use Rattle.aw_term.specs.Rules.{Child, Rule, Sort, Grammar}
use Rattle.aw_term.specs.Artifacts.{Words}
use Rattle.aw_term.specs.WellFormed.{Each, ChildFits, RuleFits, SortFits, IsWellFormed, variables}
use Rattle.aw_term.proofs.Eaches.{each_map, each_right}
use Rattle.aw_replay.specs.United.{at_one_role, united, united_words}
use Rattle.aw_replay.proofs.SortsAt.{gives_same, takes_same}

child_fits : (g : Grammar) (n : ℕ) (c : Child) → ChildFits g n c → ChildFits (united g) n c
child_fits g n c f = record {
  declared = subst (λ m. c.sort < m) (sym (length-map g.sorts at_one_role)) f.declared;
  takes = f.takes ∙ sym (takes_same g.sorts c.sort);
  gives = f.gives ∙ sym (gives_same g.sorts c.sort);
  terms = f.terms;
  enter = f.enter;
}

rule_fits : (g : Grammar) (r : Rule) → RuleFits g r → RuleFits (united g) r
rule_fits g r f = record {
  declared = subst (λ m. r.sort < m) (sym (length-map g.sorts at_one_role)) f.declared;
  takes = f.takes ∙ sym (takes_same g.sorts r.sort);
  gives = f.gives ∙ sym (gives_same g.sorts r.sort);
  few_params = f.few_params;
  few_children = f.few_children;
  few_variables = f.few_variables;
  few_symbols = f.few_symbols;
  numbered = f.numbered;
  patterns = f.patterns;
  results = f.results;
  enter = f.enter;
  children = each_map (ChildFits g (variables r)) (ChildFits (united g) (variables r)) r.children (child_fits g (variables r)) f.children;
}

sorts_fit : (roles : ℕ) (sorts : List Sort) → Each (SortFits roles) sorts → Each (SortFits 1) (map at_one_role sorts)
sorts_fit roles [] each = tt
sorts_fit roles (s ∷ ss) each = (
  record { declared = omega arith; few_takes = each.0.few_takes; few_gives = each.0.few_gives; start = each.0.start },
  sorts_fit roles ss each.1,
)

pub stays_well_formed : (w : Words) (g : Grammar) → IsWellFormed w g → IsWellFormed (united_words w) (united g)
stays_well_formed w g f = record {
  roles = refl;
  all_cons = f.all_cons;
  all_sorts = length-map g.sorts at_one_role ∙ f.all_sorts;
  all_rules = f.all_rules;
  few_roles = omega arith;
  few_cons = f.few_cons;
  few_sorts = f.few_sorts;
  few_rules = f.few_rules;
  names = (refl, each_right (λ n. is_name n ≡ true) w.roles (w.cons ++ (w.sorts ++ w.rules)) f.names);
  roles_differ = (tt, tt);
  cons_differ = f.cons_differ;
  sorts_differ = f.sorts_differ;
  rules_differ = f.rules_differ;
  arities = f.arities;
  sorts = sorts_fit g.roles g.sorts f.sorts;
  rules = each_map (RuleFits g) (RuleFits (united g)) g.rules (rule_fits g) f.rules;
}
