use Rattle.aw_grammar.proofs.grammar.Grammar.of_declared.Goals as goal

pub invariant_of-result : goal.invariant_of-result
invariant_of-result c = record {
  role_names = c.in_ok-first_two.ensures.roles;
  con_names = c.in_ok-first_two.ensures.cons;
  sort_names = c.in_ok-first_two.ensures.sorts;
  rule_names = c.in_ok-first_two.ensures.rules;
  variables_fit = c.requires.variables;
  well_formed = c.requires.well_formed;
}
