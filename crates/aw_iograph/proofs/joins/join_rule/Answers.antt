use Rattle.std.proofs.Common.{List, subst, inl, inr}
use Rattle.aw_iograph.specs.declared.occ.Flow.{Flow}
use Rattle.aw_iograph.specs.Arcs.{IsFlow}
use Rattle.aw_iograph.proofs.StepArcs.{refilled}
use Rattle.aw_iograph.proofs.StepJoins.{or_true, or_false, joins_steps}
use Rattle.aw_iograph.proofs.joins.join_rule.Goals as goal

pub join_children-requires-clause-placed : goal.join_children-requires-clause-placed
join_children-requires-clause-placed c a p = c.requires.placed a (inl p)

pub join_flows-then-requires-clause-placed : goal.join_flows-then-requires-clause-placed
join_flows-then-requires-clause-placed c a q =
    c.requires.placed a (inr (subst (λ (fs : List Flow). IsFlow fs a) (refilled c.join_children.new.flows c.truncate.new.self _ _ c.truncate.ensures c.in_ok-flow_terms.ensures) q))

pub returns-then-then : goal.returns-then-then
returns-then-then c =
    joins_steps c.args.entries.now c.args.io.now c.args.rule.now.children c.args.rule.now.results c.flow_terms.new.graph _ _ _ _ _ _ _ _ _
    (refilled c.join_children.new.flows c.truncate.new.self _ _ c.truncate.ensures c.in_ok-flow_terms.ensures)
    (or_true _ c.in_ok-first.first c.if-then.true) c.in_ok-first.ensures c.join_flows-then.ensures

pub returns-else-then : goal.returns-else-then
returns-else-then c =
    joins_steps c.args.entries.now c.args.io.now c.args.rule.now.children c.args.rule.now.results c.flow_terms.new.graph _ _ _ _ _ _ _ _ _
    (refilled c.join_children.new.flows c.truncate.new.self _ _ c.truncate.ensures c.in_ok-flow_terms.ensures)
    (or_false c.join_flows-then.result _ c.if-then.false) c.in_ok-first.ensures c.join_flows-then.ensures
