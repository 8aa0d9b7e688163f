use Rattle.std.proofs.Common.{[], map, ap, sym, ◌∙◌}
use Rattle.std.specs.Option.{option_copied}
use Rattle.std.proofs.lemmas.Result.{IfOk-weaker}
use Rattle.aw_term.specs.Rules.{Rule}
use Rattle.aw_term.specs.Views.{ground_of}
use Rattle.aw_grammar.specs.GrammarView.{rule_of}
use Rattle.aw_apply.specs.Made.{made}
use Rattle.aw_apply.specs.MadeView.{as_child, IsMade}
use Rattle.aw_apply.specs.declared.making.Made.{Made}
use Rattle.aw_apply.proofs.MakeLemmas.{rule_found}
use Rattle.aw_grammar.proofs.RuleSizes.{results_few, symbols_few}
use Rattle.aw_apply.proofs.make.made.Goals as goal

pub made_by-requires-clause-gives : goal.made_by-requires-clause-gives
made_by-requires-clause-gives c = results_few c.args.g.now c.args.rule c.in-Some.declared.now (sym (ap option_copied (sym c.in-Some.is) ∙ c.rule.ensures.value))

pub made_by-requires-clause-symbols : goal.made_by-requires-clause-symbols
made_by-requires-clause-symbols c = symbols_few c.args.g.now c.args.rule c.in-Some.declared.now (sym (ap option_copied (sym c.in-Some.is) ∙ c.rule.ensures.value))

pub returns-clause-equations : goal.returns-clause-equations
returns-clause-equations c =
    let n = c.args.node.now in
    let g = c.args.g.now in
    let gs = map ground_of c.args.args.now in
    let here = sym (ap option_copied (sym c.in-Some.is) ∙ c.rule.ensures.value) in
    IfOk-weaker c.made_by.result (λ (m : Made). IsMade [] m.equations m.children (made n c.args.rule (rule_of g.sorts c.in-Some.declared.now) gs c.args.bound.items)) _
    (λ m w. λ r e. w.equations ∙ ap (λ (q : Rule). (made n c.args.rule q gs c.args.bound.items).equations) (rule_found (rule_of g.sorts) g.rules c.args.rule c.in-Some.declared.now r here e))
    c.made_by.ensures

pub returns-clause-children : goal.returns-clause-children
returns-clause-children c =
    let n = c.args.node.now in
    let g = c.args.g.now in
    let gs = map ground_of c.args.args.now in
    let here = sym (ap option_copied (sym c.in-Some.is) ∙ c.rule.ensures.value) in
    IfOk-weaker c.made_by.result (λ (m : Made). IsMade [] m.equations m.children (made n c.args.rule (rule_of g.sorts c.in-Some.declared.now) gs c.args.bound.items)) _
    (λ m w. λ r e. w.children ∙ ap (λ (q : Rule). map as_child (made n c.args.rule q gs c.args.bound.items).calls) (rule_found (rule_of g.sorts) g.rules c.args.rule c.in-Some.declared.now r here e))
    c.made_by.ensures
