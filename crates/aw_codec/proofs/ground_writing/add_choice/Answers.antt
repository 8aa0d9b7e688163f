use Rattle.std.proofs.Common.{◌++◌, ◌∷◌, [], sym, ap, map, ◌∙◌}
use Rattle.std.specs.Int.{w16, w64, to_be_bytes}
use Rattle.std.proofs.lemmas.Result.{on_ok_weaker, on_err_weaker}
use Rattle.aw_list.proofs.Fronts.{behind}
use Rattle.aw_term.specs.Views.{ground_of}
use Rattle.aw_choice.specs.ChoiceView.{choice_of}
use Rattle.aw_codec.specs.Names.{spelled_node}
use Rattle.aw_codec.specs.Grounds.{spelled_grounds}
use Rattle.aw_codec.specs.Choices.{spelled_choice}
use Rattle.aw_codec.proofs.Adding.{two}
use Rattle.aw_codec.proofs.ground_writing.add_choice.Goals as goal

pub returns-in_ok-add_u16-in-Start-clause-ok : goal.returns-in_ok-add_u16-in-Start-clause-ok
returns-in_ok-add_u16-in-Start-clause-ok c =
    let old = c.args.text.now in
    let sort = to_be_bytes w16 c.in-Start.sort in
    let case = to_be_bytes w64 c.in-Start.case in
    on_ok_weaker c.add_u64.result
    (λ e. two old (0 ∷ []) (sort ++ case) c.add_byte.new.text c.add_u64.new.text c.in_ok-add_byte-in-Start.ensures.ok
    (two c.add_byte.new.text sort case c.add_u16.new.text c.add_u64.new.text c.in_ok-add_u16-in-Start.ensures.ok e)
    ∙ ap (λ x. old ++ spelled_choice (choice_of x)) (sym c.in-Start.is))
    c.add_u64.ensures.ok

pub returns-in_ok-add_u16-in-Develop-clause-ok : goal.returns-in_ok-add_u16-in-Develop-clause-ok
returns-in_ok-add_u16-in-Develop-clause-ok c =
    let old = c.args.text.now in
    let node = spelled_node c.in-Develop.node in
    let rule = to_be_bytes w16 c.in-Develop.rule in
    let args = spelled_grounds (map ground_of c.in-Develop.args) in
    on_ok_weaker c.add_grounds.result
    (λ e. two old (1 ∷ []) (node ++ (rule ++ args)) c.add_byte-in-Develop.new.text c.add_grounds.new.text c.in_ok-add_byte-in-Develop.ensures.ok
    (two c.add_byte-in-Develop.new.text node (rule ++ args) c.add_node.new.text c.add_grounds.new.text c.in_ok-add_node-in-Develop.ensures.ok
    (two c.add_node.new.text rule args c.add_u16-in-Develop.new.text c.add_grounds.new.text c.in_ok-add_u16-in-Develop.ensures.ok e))
    ∙ ap (λ x. old ++ spelled_choice (choice_of x)) (sym c.in-Develop.is))
    c.add_grounds.ensures.ok

pub returns-in_ok-add_u16-in-Develop-clause-err : goal.returns-in_ok-add_u16-in-Develop-clause-err
returns-in_ok-add_u16-in-Develop-clause-err c =
    let new = c.add_grounds.new.text in
    on_err_weaker c.add_grounds.result
    (λ h. behind c.args.text.now _ c.add_byte-in-Develop.new.text new c.in_ok-add_byte-in-Develop.ensures.ok
    (behind c.add_byte-in-Develop.new.text _ c.add_node.new.text new c.in_ok-add_node-in-Develop.ensures.ok
    (behind c.add_node.new.text _ c.add_u16-in-Develop.new.text new c.in_ok-add_u16-in-Develop.ensures.ok h)))
    c.add_grounds.ensures.err
