use Rattle.std.proofs.Common.{◌∙◌, ap, sym, ◌-◌, ◌&&◌, not, nat_eq, length, slice_get}
use Rattle.aw_grammar.specs.GrammarOf.{grammar_of}
use Rattle.aw_law_sites.specs.Homes.{home, parent}
use Rattle.aw_site.proofs.ParentRoles.{called_by_last, start_not_called}
use Rattle.aw_site.proofs.validity.is_called.Goals as goal

pub returns-in-Some : goal.returns-in-Some
returns-in-Some c =
    let n = c.args.node.now in
    called_by_last (grammar_of c.args.g.now) c.args.role n c.in-Some.step.now c.home_before.result c.requires
    (c.in-Some.ensures.value ∙ ap (λ ss. slice_get ss (length ss - 1)) c.as_slice.ensures.value) c.home_before.ensures

pub returns-in-None : goal.returns-in-None
returns-in-None c =
    let n = c.args.node.now in
    let g = grammar_of c.args.g.now in
    ap (λ b. b && not (nat_eq (home g (parent n)) c.args.role))
    (sym (start_not_called n (c.in-None.ensures.value ∙ ap (λ ss. slice_get ss (length ss - 1)) c.as_slice.ensures.value)))
