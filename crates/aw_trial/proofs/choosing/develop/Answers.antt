use Rattle.std.proofs.Common.{ap, ◌∙◌}
use Rattle.std.specs.Prelude.{slice_get}
use Rattle.std.proofs.lemmas.Result.{on_ok_weaker}
use Rattle.aw_accept.specs.declared.accepted.Accepted.{Accepted}
use Rattle.aw_grammar.specs.GrammarOf.{grammar_of}
use Rattle.aw_trial.specs.Turns.{params_of}
use Rattle.aw_trial.proofs.Steps.{developed, argument_grows}
use Rattle.aw_trial.proofs.choosing.develop.Goals as goal

pub returns-clause-does : goal.returns-clause-does
returns-clause-does g c =
    let r = c.args.rule in
    let many = c.params_of-params.ensures ∙ ap (λ d. params_of (slice_get (grammar_of d).rules r)) (c.grammar.ensures.value ∙ ap (λ (a : Accepted). a.grammar) c.accepted.ensures) in
    on_ok_weaker c.make_choice.result
    (λ does. developed g.W.Workspace c.args.world.now c.make_choice.new.world c.args.tally.now c.argument.new.tally c.make_choice.new.tally
    c.args.node r c.params_of-params.result _ many c.in_ok-args.ensures.args c.in_ok-args.ensures.drew does)
    c.make_choice.ensures.does

pub returns-clause-grows : goal.returns-clause-grows
returns-clause-grows g c =
    on_ok_weaker c.make_choice.result (λ grows. argument_grows c.params_of-params.result c.args.tally.now c.argument.new.tally c.make_choice.new.tally
    c.in_ok-args.ensures.drew grows) c.make_choice.ensures.grows
