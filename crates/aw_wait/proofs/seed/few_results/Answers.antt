use Rattle.std.proofs.Common.{◌≤◌, subst, sym}
use Rattle.std.proofs.Math.Logic.{∥∥₁_elim}
use Rattle.std.specs.Coded.{le_prop}
use Rattle.aw_grammar.specs.GrammarOf.{grammar_of}
use Rattle.aw_iograph.proofs.FewOf.{gives_few}
use Rattle.aw_wait.proofs.seed.few_results.Goals as goal

pub returns-clause-few : goal.returns-clause-few
returns-clause-few c =
    let g = c.args.g.now in
    subst (λ n. n ≤ 8) (sym c.gives.ensures) (∥∥₁_elim g.well_formed le_prop (λ w. gives_few (grammar_of g).roles (grammar_of g).sorts w.sorts c.args.sort))
