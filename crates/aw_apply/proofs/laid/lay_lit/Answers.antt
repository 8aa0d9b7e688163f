use Rattle.std.proofs.Common.{map, ap, ◌∙◌}
use Rattle.aw_store.specs.EquationView.{equation_of}
use Rattle.aw_apply.specs.MadeView.{all_of, lone, with_one}
use Rattle.aw_apply.proofs.LayLemmas.{on_given}
use Rattle.aw_apply.proofs.laid.lay_lit.Goals as goal

pub returns : goal.returns
returns c =
    let a = all_of (map equation_of c.args.equations.now.items) c.args.all.now in
    on_given c.lay_lone.result (λ e. e ∙ ap (λ z. with_one a (lone c.args.node.now a.next z)) c.in_ok-body.ensures) c.lay_lone.ensures
