use Rattle.std.proofs.Common.{◌++◌, map, ap, ◌∙◌, append_assoc}
use Rattle.aw_grammar.specs.GrammarView.{child_of, rule_of}
use Rattle.aw_apply.specs.Made.{child_refs}
use Rattle.aw_apply.proofs.LayLemmas.{on_given}
use Rattle.aw_apply.proofs.make.add_variables.Goals as goal

pub returns : goal.returns
returns c =
    let n = c.args.node.now in
    let r = c.args.number in
    let sorts = c.args.g.now.sorts in
    let more = child_refs n r 1 (rule_of sorts c.args.rule.now).children in
    on_given c.push_children_results.result
    (λ e. e ∙ ap (λ cs. c.append.new.self.items ++ child_refs n r 1 (map (child_of sorts) cs)) c.as_slice-children.ensures
    ∙ ap (λ z. z ++ more) c.in_ok-append.ensures.items ∙ append_assoc c.args.refs.now.items c.args.entered.items more)
    c.push_children_results.ensures
