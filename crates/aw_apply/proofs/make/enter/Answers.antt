use Rattle.aw_grammar.specs.GrammarView.{rule_of}
use Rattle.aw_apply.specs.Made.{child_refs}
use Rattle.aw_apply.proofs.MakeLemmas.{entered_all}
use Rattle.aw_apply.proofs.make.enter.Goals as goal

pub returns : goal.returns
returns c =
    entered_all c.args.node.now (λ x. elim x [ ]) c.args.equations.now.items c.lay_grounds.new.equations.items c.args.refs.now.items
    c.add_variables.new.refs.items c.args.args.now c.as_slice.result.now c.in_ok-entered.entered
    (child_refs c.args.node.now c.args.number 1 (rule_of c.args.g.now.sorts c.args.rule.now).children) c.in_ok-entered.ensures c.as_slice.ensures c.in_ok-add_variables.ensures
