use Rattle.std.proofs.Common.{◌∙◌, sym}
use Rattle.aw_face.specs.Faces.{told}
use Rattle.aw_face.proofs.RuleSteps.{rule_kept, rule_at_fault, no_more_rules}
use Rattle.aw_face.proofs.check.check_faces.Goals as goal

pub returns-in-Some-fault_of_rule : goal.returns-in-Some-fault_of_rule
returns-in-Some-fault_of_rule c =
    let g = c.args.g.now in
    let f = c.args.f.now in
    sym c.loop-rule.invariant
    ∙ rule_at_fault g.sorts f.offers f.uses c.loop-rule.number c.in-Some.rule.now g.rules (told c.in-Some-fault_of_rule.fault) (sym c.in-Some.ensures.value) c.in-Some-fault_of_rule.ensures

pub loop-rule-preserved : goal.loop-rule-preserved
loop-rule-preserved c =
    let g = c.args.g.now in
    let f = c.args.f.now in
    rule_kept g.sorts f.offers f.uses c.loop-rule.number c.in-Some.rule.now g.rules (sym c.in-Some.ensures.value) c.in-None.ensures ∙ c.loop-rule.invariant

pub returns : goal.returns
returns c =
    let g = c.args.g.now in
    let f = c.args.f.now in
    let k = c.in_default.ensures.value in
    sym c.loop-rule.invariant ∙ no_more_rules g.sorts f.offers f.uses c.loop-rule.number g.rules k
