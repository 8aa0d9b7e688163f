use Rattle.std.proofs.Common.{◌≡◌, ◌+◌, ◌-◌, ◌∙◌, ap, length, arith}
use Rattle.aw_grammar.specs.Declarations.{Entry}
use Rattle.aw_grammar.specs.GrammarOf.{entry}
use Rattle.aw_grammar.specs.GrammarView.{sorts_of, rule_of}
use Rattle.aw_face.specs.Faces.{rule_fault}
use Rattle.aw_spec.proofs.LastRule.{at_last}
use Rattle.aw_spec.proofs.draft.last_fault.Goals as goal

pub returns : goal.returns
returns c = λ front e h.
    let g = c.args.grammar.now in
    let f = c.args.faces.now in
    let rule = c.last_rule.result.now in
    let last : length g.rules - 1 + 1 ≡ length g.rules = omega (arith, c.requires) in
    let same : entry g.sorts rule ≡ e = at_last (entry g.sorts) g.rules front e (length g.rules - 1) rule last h c.last_rule.ensures.value in
    c.rule_fault.ensures
    ∙ ap (λ ss. rule_fault (sorts_of ss) f.offers f.uses (rule_of ss rule)) c.as_slice.ensures
    ∙ ap (λ (x : Entry). rule_fault (sorts_of g.sorts) f.offers f.uses x.rule) same
