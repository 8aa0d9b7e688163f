use Rattle.std.proofs.Common.{◌++◌, ◌∷◌, [], sym, ap, ◌∙◌}
use Rattle.std.proofs.lemmas.Result.{on_ok_weaker, on_err_weaker}
use Rattle.aw_list.proofs.Fronts.{behind}
use Rattle.aw_store.specs.EquationView.{body_of}
use Rattle.aw_codec.specs.Names.{spelled_ref}
use Rattle.aw_codec.proofs.Adding.{two}
use Rattle.aw_msg.specs.Spelling.{spelled_body}
use Rattle.aw_msg.proofs.writing.add_body.Goals as goal

pub returns-in_ok-add_byte-in-Same-clause-ok : goal.returns-in_ok-add_byte-in-Same-clause-ok
returns-in_ok-add_byte-in-Same-clause-ok c =
    let old = c.args.text.now in
    on_ok_weaker c.add_ref.result
    (λ e. two old (0 ∷ []) (spelled_ref c.in-Same.reference) c.add_byte.new.text c.add_ref.new.text c.in_ok-add_byte-in-Same.ensures.ok e
    ∙ ap (λ b. old ++ spelled_body (body_of b)) (sym c.in-Same.is))
    c.add_ref.ensures.ok

pub returns-in_ok-add_u16-in-Con-clause-err : goal.returns-in_ok-add_u16-in-Con-clause-err
returns-in_ok-add_u16-in-Con-clause-err c =
    on_err_weaker c.add_refs.result
    (λ h. behind c.args.text.now _ c.add_byte-in-Con.new.text c.add_refs.new.text c.in_ok-add_byte-in-Con.ensures.ok
    (behind c.add_byte-in-Con.new.text _ c.add_u16.new.text c.add_refs.new.text c.in_ok-add_u16-in-Con.ensures.ok h))
    c.add_refs.ensures.err

pub returns-in_ok-add_byte-in-Text-clause-err : goal.returns-in_ok-add_byte-in-Text-clause-err
returns-in_ok-add_byte-in-Text-clause-err c =
    on_err_weaker c.add_text.result (behind c.args.text.now _ c.add_byte-in-Text.new.text c.add_text.new.text c.in_ok-add_byte-in-Text.ensures.ok) c.add_text.ensures.err
