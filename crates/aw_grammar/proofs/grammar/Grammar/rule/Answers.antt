use Rattle.std.proofs.Math.Logic.{∥∥₁_map}
use Rattle.aw_term.specs.WellFormed.{RuleFits}
use Rattle.aw_grammar.specs.GrammarView.{rule_of}
use Rattle.aw_grammar.specs.GrammarOf.{grammar_of}
use Rattle.aw_grammar.proofs.Fits.{each_map_at, if_found}
use Rattle.aw_grammar.proofs.grammar.Grammar.rule.Goals as goal

pub returns-clause-fits : goal.returns-clause-fits
returns-clause-fits c =
    let g = c.args.self.now in
    if_found (λ r. ∥ RuleFits (grammar_of g) (rule_of g.sorts r) ∥₁) c.get.result g.rules c.from.result c.get.ensures.value
    (λ r e. ∥∥₁_map g.well_formed (λ w. each_map_at (rule_of g.sorts) (RuleFits (grammar_of g)) g.rules c.from.result r w.rules e))
