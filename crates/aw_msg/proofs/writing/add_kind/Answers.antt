use Rattle.std.proofs.Common.{◌++◌, ◌∷◌, [], sym, ap, map, ◌∙◌}
use Rattle.std.specs.Int.{w16, to_be_bytes}
use Rattle.std.proofs.lemmas.Result.{on_ok_weaker, on_err_weaker}
use Rattle.aw_list.proofs.Fronts.{behind, on_err_held}
use Rattle.aw_store.specs.EquationView.{equation_of}
use Rattle.aw_codec.specs.Names.{spelled_node, spelled_ref, spelled_refs}
use Rattle.aw_codec.proofs.Adding.{two}
use Rattle.aw_msg.specs.Spelling.{spelled_equation, spelled_load, spelled_kind}
use Rattle.aw_msg.specs.MessageView.{plain_kind}
use Rattle.aw_msg.proofs.writing.add_kind.Goals as goal

pub returns-in_ok-add_refs-in-Call-clause-ok : goal.returns-in_ok-add_refs-in-Call-clause-ok
returns-in_ok-add_refs-in-Call-clause-ok c =
    let old = c.args.text.now in
    let node = spelled_node c.in-Call.node in
    let refs = spelled_refs c.in-Call.inherited in
    let load = spelled_load (map equation_of c.in-Call.load) in
    on_ok_weaker c.add_load.result
    (λ e. two old (0 ∷ []) (node ++ (refs ++ load)) c.add_byte.new.text c.add_load.new.text c.in_ok-add_byte-in-Call.ensures.ok
    (two c.add_byte.new.text node (refs ++ load) c.add_node.new.text c.add_load.new.text c.in_ok-add_node-in-Call.ensures.ok
    (two c.add_node.new.text refs load c.add_refs.new.text c.add_load.new.text
    (c.in_ok-add_refs-in-Call.ensures.ok ∙ ap (λ rs. c.add_node.new.text ++ spelled_refs rs) c.as_slice.ensures) e))
    ∙ ap (λ k. old ++ spelled_kind (plain_kind k)) (sym c.in-Call.is))
    c.add_load.ensures.ok

pub returns-in_ok-add_ref-in-Ask-clause-ok : goal.returns-in_ok-add_ref-in-Ask-clause-ok
returns-in_ok-add_ref-in-Ask-clause-ok c =
    let old = c.args.text.now in
    let reference = spelled_ref c.in-Ask.reference in
    let from = to_be_bytes w16 c.in-Ask.from in
    on_ok_weaker c.add_u16.result
    (λ e. two old (1 ∷ []) (reference ++ from) c.add_byte-in-Ask.new.text c.add_u16.new.text c.in_ok-add_byte-in-Ask.ensures.ok
    (two c.add_byte-in-Ask.new.text reference from c.add_ref.new.text c.add_u16.new.text c.in_ok-add_ref-in-Ask.ensures.ok e)
    ∙ ap (λ k. old ++ spelled_kind (plain_kind k)) (sym c.in-Ask.is))
    c.add_u16.ensures.ok

pub returns-in_ok-add_equation-in-Tell-clause-ok : goal.returns-in_ok-add_equation-in-Tell-clause-ok
returns-in_ok-add_equation-in-Tell-clause-ok c =
    let old = c.args.text.now in
    let equation = spelled_equation (equation_of c.in-Tell.equation) in
    let load = spelled_load (map equation_of c.in-Tell.load) in
    on_ok_weaker c.add_load-in-Tell.result
    (λ e. two old (2 ∷ []) (equation ++ load) c.add_byte-in-Tell.new.text c.add_load-in-Tell.new.text c.in_ok-add_byte-in-Tell.ensures.ok
    (two c.add_byte-in-Tell.new.text equation load c.add_equation.new.text c.add_load-in-Tell.new.text c.in_ok-add_equation-in-Tell.ensures.ok e)
    ∙ ap (λ k. old ++ spelled_kind (plain_kind k)) (sym c.in-Tell.is))
    c.add_load-in-Tell.ensures.ok

pub returns-in_err-add_refs-in-Call-clause-err : goal.returns-in_err-add_refs-in-Call-clause-err
returns-in_err-add_refs-in-Call-clause-err c =
    let new = c.add_refs.new.text in
    on_err_held c.from_residual-in_err-add_refs-in-Call.result
    (behind c.args.text.now _ c.add_byte.new.text new c.in_ok-add_byte-in-Call.ensures.ok
    (behind c.add_byte.new.text _ c.add_node.new.text new c.in_ok-add_node-in-Call.ensures.ok c.in_err-add_refs-in-Call.ensures.err))

pub returns-in_ok-add_refs-in-Call-clause-err : goal.returns-in_ok-add_refs-in-Call-clause-err
returns-in_ok-add_refs-in-Call-clause-err c =
    let new = c.add_load.new.text in
    on_err_weaker c.add_load.result
    (λ h. behind c.args.text.now _ c.add_byte.new.text new c.in_ok-add_byte-in-Call.ensures.ok
    (behind c.add_byte.new.text _ c.add_node.new.text new c.in_ok-add_node-in-Call.ensures.ok
    (behind c.add_node.new.text _ c.add_refs.new.text new c.in_ok-add_refs-in-Call.ensures.ok h)))
    c.add_load.ensures.err

pub returns-in_err-add_ref-in-Ask-clause-err : goal.returns-in_err-add_ref-in-Ask-clause-err
returns-in_err-add_ref-in-Ask-clause-err c =
    on_err_held c.from_residual-in_err-add_ref-in-Ask.result
    (behind c.args.text.now _ c.add_byte-in-Ask.new.text c.add_ref.new.text c.in_ok-add_byte-in-Ask.ensures.ok c.in_err-add_ref-in-Ask.ensures.err)

pub returns-in_err-add_equation-in-Tell-clause-err : goal.returns-in_err-add_equation-in-Tell-clause-err
returns-in_err-add_equation-in-Tell-clause-err c =
    on_err_held c.from_residual-in_err-add_equation-in-Tell.result
    (behind c.args.text.now _ c.add_byte-in-Tell.new.text c.add_equation.new.text c.in_ok-add_byte-in-Tell.ensures.ok c.in_err-add_equation-in-Tell.ensures.err)

pub returns-in_ok-add_equation-in-Tell-clause-err : goal.returns-in_ok-add_equation-in-Tell-clause-err
returns-in_ok-add_equation-in-Tell-clause-err c =
    let new = c.add_load-in-Tell.new.text in
    on_err_weaker c.add_load-in-Tell.result
    (λ h. behind c.args.text.now _ c.add_byte-in-Tell.new.text new c.in_ok-add_byte-in-Tell.ensures.ok
    (behind c.add_byte-in-Tell.new.text _ c.add_equation.new.text new c.in_ok-add_equation-in-Tell.ensures.ok h))
    c.add_load-in-Tell.ensures.err
