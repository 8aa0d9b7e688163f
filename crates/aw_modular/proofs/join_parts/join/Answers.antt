use Rattle.std.proofs.Common.{subst, sym}
use Rattle.aw_grammar.specs.declared.grammar.Grammar.{Grammar}
use Rattle.aw_modular.specs.Wholes.{LieWithin}
use Rattle.aw_modular.proofs.Wholes.{whole_free, whole_within, gathers_share, gathers_whole, gathers_fit, gathers_variables}
use Rattle.aw_modular.proofs.join_parts.join.Goals as goal

pub of_declared-requires-clause-well_formed : goal.of_declared-requires-clause-well_formed
of_declared-requires-clause-well_formed c = gathers_fit c.args.parts c.in_ok-shared.shared c.in_ok-shared.rules c.in_ok-shared.ensures.same c.requires.fit

pub of_declared-requires-clause-variables : goal.of_declared-requires-clause-variables
of_declared-requires-clause-variables c = gathers_variables c.args.parts c.in_ok-shared.shared c.in_ok-shared.rules c.in_ok-shared.ensures.same

pub accepted-requires : goal.accepted-requires
accepted-requires c =
    let w = c.in_ok-whole.ensures in
    let all = c.in_ok-shared in
    whole_free c.args.parts c.in_ok-whole.whole c.requires.order (gathers_share c.args.parts all.shared all.rules all.ensures.same)
    (gathers_whole c.args.parts all.shared all.rules c.in_ok-whole.whole all.ensures.same (record { roles = w.roles; cons = w.cons; sorts = w.sorts; rules = w.rules }))

pub returns-clause-within : goal.returns-clause-within
returns-clause-within c =
    let w = c.in_ok-whole.ensures in
    let all = c.in_ok-shared in
    subst (λ (g : Grammar). ∥ LieWithin c.args.parts g ∥₁) (sym c.in_ok-accepted.ensures)
    (whole_within c.args.parts c.in_ok-whole.whole c.requires.order (gathers_share c.args.parts all.shared all.rules all.ensures.same)
    (gathers_whole c.args.parts all.shared all.rules c.in_ok-whole.whole all.ensures.same (record { roles = w.roles; cons = w.cons; sorts = w.sorts; rules = w.rules })))
