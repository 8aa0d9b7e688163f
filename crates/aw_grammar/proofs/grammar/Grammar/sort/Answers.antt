use Rattle.std.proofs.Common.{length}
use Rattle.std.proofs.Math.Logic.{∥∥₁_map}
use Rattle.aw_term.specs.WellFormed.{SortFits}
use Rattle.aw_grammar.specs.GrammarView.{sort_of}
use Rattle.aw_grammar.proofs.Fits.{each_map_at, if_found}
use Rattle.aw_grammar.proofs.grammar.Grammar.sort.Goals as goal

pub returns-clause-fits : goal.returns-clause-fits
returns-clause-fits c =
    let g = c.args.self.now in
    if_found (λ s. ∥ SortFits (length g.roles) (sort_of s) ∥₁) c.get.result g.sorts c.from.result c.get.ensures.value
    (λ s e. ∥∥₁_map g.well_formed (λ w. each_map_at sort_of (SortFits (length g.roles)) g.sorts c.from.result s w.sorts e))
