use Rattle.std.proofs.Common.{◌≡◌, ◌<◌, ◌≤◌, length, map, ap, sym, ◌∙◌, subst}
use Rattle.std.specs.Prelude.{◌||◌}
use Rattle.aw_list.proofs.Members.{member_got}
use Rattle.aw_iograph.specs.declared.occ.Flow.{Flow}
use Rattle.aw_iograph.specs.Occurrences.{inherited}
use Rattle.aw_iograph.specs.Arcs.{arc_of}
use Rattle.aw_iograph.proofs.Joining.{none_among}
use Rattle.aw_iograph.proofs.StepJoins.{got_at, joins_flow, joins_flows}
use Rattle.aw_iograph.proofs.joins.join_flows.Goals as goal
use Rattle.aw_iograph.proofs.joins.join_flows.Goals.{then-join_row, else-join_row}

abbrev none : Flow
none = record { from = inherited 0 0; to = inherited 0 0 }

pub join_row-requires-clause-from_in : goal.join_row-requires-clause-from_in
join_row-requires-clause-from_in c =
    let here = got_at c.as_slice-flow-items.result.now c.args.flows.now c.loop-flow.flow-index none c.as_slice-flow-items.ensures c.loop-flow-test.true in
    let (a, b) = c.requires.placed c.arc.result (_, member_got _ _ _ here, c.arc.ensures) in
    subst (λ n. c.arc.result.from < n) (sym (c.loop-flow.invariant.size ∙ c.requires.size)) a

pub join_row-requires-clause-to_in : goal.join_row-requires-clause-to_in
join_row-requires-clause-to_in c =
    let here = got_at c.as_slice-flow-items.result.now c.args.flows.now c.loop-flow.flow-index none c.as_slice-flow-items.ensures c.loop-flow-test.true in
    let (a, b) = c.requires.placed c.arc.result (_, member_got _ _ _ here, c.arc.ensures) in
    subst (λ n. c.arc.result.to < n) (sym (c.loop-flow.invariant.size ∙ c.requires.size)) b

pub join_row-requires-clause-places : goal.join_row-requires-clause-places
join_row-requires-clause-places c = c.loop-flow.invariant.places ∙ c.requires.places ∙ sym (c.loop-flow.invariant.size ∙ c.requires.size)

pub loop-flow-init : goal.loop-flow-init
loop-flow-init c = none_among (map arc_of c.args.flows.now) c.args.rows.now.items c.args.read.now.items

pub loop-flow-preserved : goal.loop-flow-preserved
loop-flow-preserved c =
    let here = got_at c.as_slice-flow-items.result.now c.args.flows.now c.loop-flow.flow-index none c.as_slice-flow-items.ensures c.loop-flow-test.true in
    let both : c.if-join_row.again ≡ (c.join_row.result || c.loop-flow.again) = elim c.if-join_row.branch [
      | then-join_row w ↦ w.again-is ∙ sym (ap (λ b. b || c.loop-flow.again) w.if-join_row.true)
      | else-join_row w ↦ w.again-is ∙ sym (ap (λ b. b || c.loop-flow.again) w.if-join_row.false)
    ] in
    joins_flow _ _ _ _ _ _ _ _ _ _ _ _ _ here c.arc.ensures both c.loop-flow.invariant c.join_row.ensures

pub returns : goal.returns
returns c = joins_flows c.args.flows.now c.loop-flow.flow-index _ _ _ _ _ (subst (λ xs. length xs ≤ c.loop-flow.flow-index) c.as_slice-flow-items.ensures c.loop-flow-test.false) c.loop-flow.invariant
