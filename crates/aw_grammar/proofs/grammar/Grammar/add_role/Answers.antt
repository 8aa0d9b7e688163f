use Rattle.std.proofs.Common.{sym}
use Rattle.aw_grammar.proofs.Added.{good_role}
use Rattle.aw_grammar.proofs.VariableNames.{no_variables}
use Rattle.aw_grammar.proofs.grammar.Grammar.add_role.Goals as goal

pub invariant_of-self : goal.invariant_of-self
invariant_of-self c =
    let g = c.args.self in
    let pushed = c.in_ok-roles.ensures.index in
    let added = c.in_ok-roles.ensures.items in
    record {
      role_names = cc;
      con_names = g.con_names;
      sort_names = g.sort_names;
      rule_names = g.rule_names;
      variables_fit = no_variables g.cons g.sorts g.rules c.requires.no_rules;
      well_formed = good_role g.roles g.cons g.sorts g.rules c.args.name c.in_ok-roles.roles added c.requires.no_sorts c.requires.no_rules c.requires.named (sym c.in_default.ensures) g.well_formed;
    }
