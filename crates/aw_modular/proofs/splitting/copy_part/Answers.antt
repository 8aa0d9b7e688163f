use Rattle.std.proofs.Common.{◌∙◌}
use Rattle.aw_grammar.specs.GrammarOf.{grammar_of}
use Rattle.aw_modular.proofs.Yeses.{own_rules, rules_of_own}
use Rattle.aw_modular.proofs.splitting.copy_part.Goals as goal

pub returns : goal.returns
returns c =
    let p = c.args.part.now in
    let copied = c.in_ok-copy.ensures in
    record {
      role = copied.role;
      faces = copied.faces;
      roles = copied.roles;
      cons = copied.cons;
      sorts = copied.sorts;
      rules = copied.rules ∙ rules_of_own p.role p.grammar (own_rules p.role (grammar_of p.grammar) p.own);
    }
