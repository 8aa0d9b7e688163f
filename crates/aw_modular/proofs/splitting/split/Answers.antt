use Rattle.aw_grammar.specs.GrammarOf.{grammar_of}
use Rattle.aw_grammar.specs.SomeRules.{is_at}
use Rattle.aw_modular.proofs.FacesKept.{part_keeps}
use Rattle.aw_modular.proofs.Yeses.{own_of_part}
use Rattle.aw_modular.proofs.splitting.split.Goals as goal

pub invariant_of-result : goal.invariant_of-result
invariant_of-result c = record {
  own = ∣ own_of_part c.args.role (grammar_of c.args.g.now) (grammar_of c.in_ok-grammar.grammar) c.in_ok-grammar.ensures.grammar ∣₁;
}

pub returns-clause-keeps : goal.returns-clause-keeps
returns-clause-keeps c e =
    let g = grammar_of c.args.g.now in
    part_keeps (is_at g.sorts c.args.role) g (grammar_of c.in_ok-grammar.grammar) c.args.f.now c.in_ok-faces.faces c.in_ok-grammar.ensures.grammar c.in_ok-faces.ensures e
