use Rattle.std.proofs.Common.{List, subst, inl, inr}
use Rattle.aw_iograph.specs.declared.occ.Flow.{Flow}
use Rattle.aw_iograph.specs.Arcs.{IsFlow}
use Rattle.aw_iograph.proofs.StepArcs.{refilled}
use Rattle.aw_iograph.proofs.StepJoins.{or_true, or_false, joins_child}
use Rattle.aw_iograph.proofs.joins.join_child.Goals as goal

pub join_flows-first-requires-clause-placed : goal.join_flows-first-requires-clause-placed
join_flows-first-requires-clause-placed c a p =
    c.requires.placed a (inl (subst (λ (fs : List Flow). IsFlow fs a) (refilled c.args.flows.now c.truncate.new.self _ _ c.truncate.ensures c.in_ok-flow_terms.ensures) p))

pub join_calls-then-requires-clause-placed : goal.join_calls-then-requires-clause-placed
join_calls-then-requires-clause-placed c a q = c.requires.placed a (inr q)

pub returns-then-then : goal.returns-then-then
returns-then-then c =
    joins_child c.args.entries.now c.args.io.now c.args.number c.args.child.now c.flow_terms.new.graph _ _ _ _ _ _ _ _ _
    (refilled c.args.flows.now c.truncate.new.self _ _ c.truncate.ensures c.in_ok-flow_terms.ensures)
    (or_true _ c.join_flows-first.result c.if-then.true) c.join_flows-first.ensures c.join_calls-then.ensures

pub returns-else-then : goal.returns-else-then
returns-else-then c =
    joins_child c.args.entries.now c.args.io.now c.args.number c.args.child.now c.flow_terms.new.graph _ _ _ _ _ _ _ _ _
    (refilled c.args.flows.now c.truncate.new.self _ _ c.truncate.ensures c.in_ok-flow_terms.ensures)
    (or_false c.join_calls-then.result _ c.if-then.false) c.join_flows-first.ensures c.join_calls-then.ensures
