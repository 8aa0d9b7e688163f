use Rattle.std.proofs.Common.{sym, arith}
use Rattle.aw_space.proofs.CarryingOut.{start_may, start_space, start_cost, rule_open, rule_may, rule_there, rule_space, rule_cost}
use Rattle.aw_space.proofs.space.Space.carry_out.Goals as goal

pub take_start-requires : goal.take_start-requires
take_start-requires g c = start_may g.F.Facts c.args.self.now c.args.choice.now c.args.made c.requires c.in-Start.sort c.in-Start.case c.in-Start.is

pub take_rule-requires-clause-children : goal.take_rule-requires-clause-children
take_rule-requires-clause-children g c = rule_open g.F.Facts c.args.self.now c.args.choice.now c.args.made c.requires c.in-Develop.node c.in-Develop.rule c.in-Develop.args c.in-Develop.is

pub take_rule-requires-clause-may : goal.take_rule-requires-clause-may
take_rule-requires-clause-may g c =
    rule_may g.F.Facts c.args.self.now c.args.choice.now c.args.made c.requires c.in-Develop.node c.in-Develop.rule c.in-Develop.args c.in-Develop.is c.in-Some.at (sym c.in-Some.ensures.place)
    c.in-Some.ensures.within

pub unreachable-requires : goal.unreachable-requires
unreachable-requires g c =
    rule_there g.F.Facts c.args.self.now c.args.choice.now c.args.made c.requires c.in-Develop.node c.in-Develop.rule c.in-Develop.args c.in-Develop.is (sym c.in-None.ensures.place)

pub returns-in-Start-clause-space : goal.returns-in-Start-clause-space
returns-in-Start-clause-space g c =
    start_space g.F.Facts c.args.self.now c.args.choice.now c.args.made c.requires c.in-Start.sort c.in-Start.case c.in-Start.is c.take_start.new.self c.take_start.result
    c.take_start.ensures.grammar c.take_start.ensures.held c.take_start.ensures.choices c.take_start.ensures.map

pub returns-in-Start-clause-steps : goal.returns-in-Start-clause-steps
returns-in-Start-clause-steps g c =
    omega (arith, c.take_start.ensures.steps, start_cost g.F.Facts c.args.self.now c.args.choice.now c.args.made c.requires c.in-Start.sort c.in-Start.case c.in-Start.is)

pub returns-in-Some-clause-space : goal.returns-in-Some-clause-space
returns-in-Some-clause-space g c =
    rule_space g.F.Facts c.args.self.now c.args.choice.now c.args.made c.requires c.in-Develop.node c.in-Develop.rule c.in-Develop.args c.in-Develop.is c.in-Some.at (sym c.in-Some.ensures.place)
    c.in-Some.ensures.within c.take_rule.new.self c.take_rule.result c.take_rule.ensures.grammar c.take_rule.ensures.held c.take_rule.ensures.choices c.take_rule.ensures.map

pub returns-in-Some-clause-steps : goal.returns-in-Some-clause-steps
returns-in-Some-clause-steps g c =
    omega (arith, c.take_rule.ensures.steps, rule_cost g.F.Facts c.args.self.now c.args.choice.now c.args.made c.requires c.in-Develop.node c.in-Develop.rule c.in-Develop.args c.in-Develop.is)
