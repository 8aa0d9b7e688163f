use Rattle.std.proofs.Common.{◌≤◌}
use Rattle.std.proofs.Math.Logic.{∥∥₁_elim}
use Rattle.std.specs.Coded.{le_prop}
use Rattle.aw_term.specs.Limits.{most_parts}
use Rattle.aw_grammar.specs.declared.rule.Con.{Con}
use Rattle.aw_grammar.proofs.Fits.{each_map_at, if_found}
use Rattle.aw_grammar.proofs.grammar.Grammar.con.Goals as goal

pub returns-clause-fits : goal.returns-clause-fits
returns-clause-fits c =
    let g = c.args.self.now in
    if_found (λ k. k.arity ≤ most_parts) c.get.result g.cons c.from.result c.get.ensures.value
    (λ k e. ∥∥₁_elim g.well_formed le_prop (λ w. each_map_at (λ (k : Con). k.arity) (λ n. n ≤ most_parts) g.cons c.from.result k w.arities e))
