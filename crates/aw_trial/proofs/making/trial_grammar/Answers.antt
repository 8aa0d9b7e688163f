use Rattle.std.proofs.Common.{Err, ap, ◌∙◌, subst}
use Rattle.aw_grammar.specs.Declarations.{no_declarations, grammar_in, words_in}
use Rattle.aw_grammar.specs.Build.{Built, declare_all}
use Rattle.aw_trial.proofs.Declares.{all_declared, all_spelled, no_fault, told_nothing}
use Rattle.aw_trial.proofs.making.trial_grammar.Goals as goal

pub build-requires : goal.build-requires
build-requires c = all_spelled c.in_ok-parts.parts c.in_ok-parts.ensures

pub unreachable-requires : goal.unreachable-requires
unreachable-requires c =
    let told = subst (Built c.in_ok-parts.parts) (c.in-Err-Bad.is ∙ ap Err c.in-Err-Bad.field-0-is) c.build.ensures.built in
    told_nothing _ (c.in-Err-Bad.field-0-0, c.in-Err-Bad.field-0-1) (no_fault c.in_ok-parts.parts c.in_ok-parts.ensures) told

pub returns-in-Ok-clause-grammar : goal.returns-in-Ok-clause-grammar
returns-in-Ok-clause-grammar c =
    c.in-Ok.ensures.grammar ∙ ap (λ items. grammar_in (declare_all no_declarations items)) (all_declared c.in_ok-parts.parts c.in_ok-parts.ensures)

pub returns-in-Ok-clause-words : goal.returns-in-Ok-clause-words
returns-in-Ok-clause-words c =
    c.in-Ok.ensures.words ∙ ap (λ items. words_in (declare_all no_declarations items)) (all_declared c.in_ok-parts.parts c.in_ok-parts.ensures)
