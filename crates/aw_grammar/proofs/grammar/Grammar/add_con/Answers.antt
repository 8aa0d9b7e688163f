use Rattle.std.proofs.Common.{◌∙◌, ap, sym, ◌++◌, ◌∷◌, [], map}
use Rattle.std.proofs.lemmas.List.{map-append}
use Rattle.aw_grammar.specs.declared.rule.Con.{Con}
use Rattle.aw_grammar.proofs.Added.{good_con}
use Rattle.aw_grammar.proofs.VariableNames.{no_variables}
use Rattle.aw_grammar.proofs.grammar.Grammar.add_con.Goals as goal

pub invariant_of-self : goal.invariant_of-self
invariant_of-self c =
    let g = c.args.self in
    let con : Con = record { name = c.args.con.name; arity = c.args.con.arity } in
    let pushed = c.in_ok-cons.ensures.index in
    let added = c.in_ok-cons.ensures.items in
    record {
      role_names = g.role_names;
      con_names = pushed ∙ ap (λ ns. ns ++ con.name ∷ []) g.con_names ∙ sym (ap (map (λ (k : Con). k.name)) added ∙ map-append (λ (k : Con). k.name) g.cons (con ∷ []));
      sort_names = g.sort_names;
      rule_names = g.rule_names;
      variables_fit = no_variables c.in_ok-cons.cons g.sorts g.rules c.requires.no_rules;
      well_formed = good_con g.roles g.cons g.sorts g.rules c.args.con c.in_ok-cons.cons added c.requires.no_rules c.requires.named (sym c.in_default.ensures) g.well_formed;
    }
