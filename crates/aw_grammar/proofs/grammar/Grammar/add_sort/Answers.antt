use Rattle.std.proofs.Common.{◌≡◌, ◌∙◌, ap, sym, ◌++◌, ◌∷◌, [], map}
use Rattle.std.proofs.lemmas.List.{map-append}
use Rattle.aw_grammar.specs.declared.rule.Sort.{Sort}
use Rattle.aw_grammar.specs.Declarations.{sort_declared}
use Rattle.aw_grammar.proofs.Added.{listed, good_sort}
use Rattle.aw_grammar.proofs.VariableNames.{no_variables}
use Rattle.aw_grammar.proofs.grammar.Grammar.add_sort.Goals as goal

pub invariant_of-self : goal.invariant_of-self
invariant_of-self c =
    let g = c.args.self in
    let sort : Sort = sort_declared (listed g.roles g.cons g.sorts g.rules) c.args.sort in
    let added : c.in_ok-sorts.sorts ≡ g.sorts ++ sort ∷ [] = c.in_ok-sorts.ensures.items ∙ ap (λ s. g.sorts ++ s ∷ []) c.made_sort-made.ensures in
    record {
      role_names = g.role_names;
      con_names = g.con_names;
      sort_names =
          c.in_ok-sorts.ensures.index ∙ ap (λ (s : Sort). g.sort_index ++ s.name ∷ []) c.made_sort-made.ensures ∙ ap (λ ns. ns ++ sort.name ∷ []) g.sort_names
          ∙ sym (ap (map (λ (s : Sort). s.name)) added ∙ map-append (λ (s : Sort). s.name) g.sorts (sort ∷ []));
      rule_names = g.rule_names;
      variables_fit = no_variables g.cons c.in_ok-sorts.sorts g.rules c.requires.no_rules;
      well_formed = good_sort g.roles g.cons g.sorts g.rules c.args.sort c.in_ok-sorts.sorts added c.requires.no_rules c.requires.named (sym c.in_default.ensures) g.well_formed;
    }
