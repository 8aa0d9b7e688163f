use Rattle.std.proofs.Common.{◌+◌, ◌<◌, ◌/◌, ◌%◌, sym, ◌∙◌, subst}
use Rattle.aw_iograph.proofs.StepJoins.{joins_call}
use Rattle.aw_iograph.proofs.joins.join_call.Goals as goal

pub join_row-requires-clause-from_in : goal.join_row-requires-clause-from_in
join_row-requires-clause-from_in c = let (a, b) = c.requires.placed c.call.result (c.if-marked.true, c.call.ensures) in subst (λ n. c.call.result.from < n) (sym c.requires.size) a

pub join_row-requires-clause-to_in : goal.join_row-requires-clause-to_in
join_row-requires-clause-to_in c = let (a, b) = c.requires.placed c.call.result (c.if-marked.true, c.call.ensures) in subst (λ n. c.call.result.to < n) (sym c.requires.size) b

pub join_row-requires-clause-places : goal.join_row-requires-clause-places
join_row-requires-clause-places c = c.requires.places ∙ sym c.requires.size

pub returns-then-marked : goal.returns-then-marked
returns-then-marked c = joins_call c.args.marked c.args.child (c.args.pair / 8 + 1) (c.args.pair % 8 + 1) c.call.result _ _ _ _ _ c.if-marked.true c.call.ensures c.join_row.ensures
