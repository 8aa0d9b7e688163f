use Rattle.std.proofs.Common.{◌≡◌, ◌<◌, false, get_or, ap, sym, ◌∙◌, arith}
use Rattle.std.specs.Prelude.{◌||◌}
use Rattle.std.proofs.lemmas.Option.{slice_get-get_or}
use Rattle.aw_iograph.proofs.StepJoins.{joins_no_pair, joins_marked, joins_marks, marked_has}
use Rattle.aw_iograph.proofs.joins.join_calls.Goals as goal
use Rattle.aw_iograph.proofs.joins.join_calls.Goals.{then-join_call, else-join_call}

pub loop-pair-init : goal.loop-pair-init
loop-pair-init c = joins_no_pair c.args.io.now c.args.sort c.args.child c.args.rows.now.items c.args.read.now.items

pub join_call-requires-clause-placed : goal.join_call-requires-clause-placed
join_call-requires-clause-placed c a q =
    let lt : c.loop-pair.pair < 64 = omega (arith, c.loop-pair-test.true, c.pairs-marked-items.ensures.few) in
    c.requires.placed a (
      _,
      _,
      (
        marked_has c.args.io.now c.args.sort c.pairs-marked-items.result.now c.pairs-marked-items.ensures.marks c.loop-pair.pair _ lt
            (slice_get-get_or c.pairs-marked-items.result.now c.loop-pair.pair false c.loop-pair-test.true) q.0,
        q.1,
      ),
    )

pub loop-pair-preserved : goal.loop-pair-preserved
loop-pair-preserved c =
    let lt : c.loop-pair.pair < 64 = omega (arith, c.loop-pair-test.true, c.pairs-marked-items.ensures.few) in
    let both : c.if-join_call.again ≡ (c.join_call.result || c.loop-pair.again) = elim c.if-join_call.branch [
      | then-join_call w ↦ w.again-is ∙ sym (ap (λ b. b || c.loop-pair.again) w.if-join_call.true)
      | else-join_call w ↦ w.again-is ∙ sym (ap (λ b. b || c.loop-pair.again) w.if-join_call.false)
    ] in
    joins_marked c.args.io.now c.args.sort c.pairs-marked-items.result.now c.pairs-marked-items.ensures.marks c.args.child c.loop-pair.pair
    (get_or c.pairs-marked-items.result.now c.loop-pair.pair false) _ _ _ _ _ _ _ _ _ lt
    (slice_get-get_or c.pairs-marked-items.result.now c.loop-pair.pair false c.loop-pair-test.true) both c.loop-pair.invariant c.join_call.ensures

pub returns : goal.returns
returns c =
    joins_marks c.args.io.now c.args.sort c.pairs-marked-items.result.now c.pairs-marked-items.ensures.marks c.args.child c.loop-pair.pair _ _ _ _ _ c.loop-pair-test.false c.loop-pair.invariant
