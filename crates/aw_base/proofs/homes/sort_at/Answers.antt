use Rattle.std.proofs.Common.{ap, sym, ◌∙◌, ◌-◌, length, option_map, slice_get}
use Rattle.std.specs.Option.{unwrap_or}
use Rattle.aw_term.specs.Rules.{sort_of_child}
use Rattle.aw_term.proofs.LastSteps.{last_step_at}
use Rattle.aw_grammar.specs.GrammarOf.{grammar_of}
use Rattle.aw_base.proofs.homes.sort_at.Goals as goal

pub returns-in-Some : goal.returns-in-Some
returns-in-Some c =
    let g = grammar_of c.args.g.now in
    let n = c.args.n.now in
    c.sort_behind.ensures
    ∙ ap (λ o. unwrap_or (option_map (sort_of_child g) o) n.start)
    (c.in-Some.ensures.value ∙ ap (λ ss. slice_get ss (length ss - 1)) c.as_slice.ensures.value ∙ sym (last_step_at n.steps))
