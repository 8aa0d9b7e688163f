use Rattle.std.proofs.Common.{ap, ◌∙◌, ◌++◌, ◌∷◌, [], slice_index_or}
use Rattle.aw_grammar.specs.GrammarOf.{words_of}
use Rattle.aw_name.specs.declared.node.Step.{Step}
use Rattle.aw_term.specs.Artifacts.{step_text}
use Rattle.aw_base.proofs.NameFronts.{fronts_more}
use Rattle.aw_base.proofs.name_writer.write_step.Goals as goal

pub returns-clause-sound : goal.returns-clause-sound
returns-clause-sound c =
    let w = words_of c.args.g.now in
    let old = c.args.written.now in
    let at = c.args.at in
    let d : Step = record { rule = 0; child = 0 } in
    fronts_more w old.node old.text old.ends.items at d c.add_step.new.text c.push.new.self.items c.requires.sound c.requires.next c.requires.within
    (c.in_ok-add_step.ensures.ok ∙ ap (λ ss. old.text ++ step_text w (slice_index_or ss at d)) c.as_slice.ensures.value)
    (c.in_ok-push.ensures.items ∙ ap (λ n. old.ends.items ++ n ∷ []) c.len.ensures)
