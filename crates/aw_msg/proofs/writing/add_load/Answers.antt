use Rattle.std.proofs.lemmas.Result.{on_ok_weaker, on_err_weaker}
use Rattle.std.proofs.Common.{◌++◌, ap, ◌∙◌, map}
use Rattle.std.specs.List.{flat_map}
use Rattle.aw_list.proofs.Fronts.{behind}
use Rattle.aw_store.specs.EquationView.{equation_of}
use Rattle.aw_msg.specs.Spelling.{spelled_equation}
use Rattle.aw_msg.proofs.MessageWriting.{load_added}
use Rattle.aw_msg.proofs.writing.add_load.Goals as goal

pub returns-clause-ok : goal.returns-clause-ok
returns-clause-ok c =
    on_ok_weaker c.add_each_equation.result
    (λ e. load_added c.args.load.now c.is_empty.result c.len.result c.args.text.now c.add_byte.new.text c.add_each_equation.new.text
    c.is_empty.ensures c.if-is_empty.false c.len.ensures c.in_ok-add_byte.ensures.ok
    (e ∙ ap (λ es. c.add_byte.new.text ++ flat_map spelled_equation (map equation_of es)) c.as_slice.ensures))
    c.add_each_equation.ensures.ok

pub returns-clause-err : goal.returns-clause-err
returns-clause-err c =
    on_err_weaker c.add_each_equation.result (behind c.args.text.now _ c.add_byte.new.text c.add_each_equation.new.text c.in_ok-add_byte.ensures.ok) c.add_each_equation.ensures.err
