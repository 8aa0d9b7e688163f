use Rattle.std.proofs.Common.{◌≡◌, ◌≤◌, length, ap, sym, ◌∙◌, arith}
use Rattle.std.specs.Prelude.{◌||◌}
use Rattle.aw_iograph.proofs.Sweeps.{sweep_start, sweep_step, swept}
use Rattle.aw_iograph.proofs.settle.sweep.Goals as goal
use Rattle.aw_iograph.proofs.settle.sweep.Goals.{then-branch, else-branch}

pub loop-done-init : goal.loop-done-init
loop-done-init c = record { swept = sweep_start c.args.g.now c.args.io.now; visited = c.requires.visited }

pub loop-done-preserved : goal.loop-done-preserved
loop-done-preserved c =
    let both : c.if-branch.added ≡ (c.in_ok-revisit.field-0 || c.loop-done.added) = elim c.if-branch.branch [
      | then-branch w ↦ w.added-is ∙ sym (ap (λ b. b || c.loop-done.added) w.if-branch.true)
      | else-branch w ↦ w.added-is ∙ sym (ap (λ b. b || c.loop-done.added) w.if-branch.false)
    ] in
    record {
      swept = sweep_step _ _ _ _ _ _ _ _ _ (omega arith) both c.loop-done.invariant.swept c.in_ok-revisit.ensures.grown c.in_ok-revisit.ensures.kept c.in_ok-revisit.ensures.only;
      visited = c.in_ok-revisit.ensures.visited;
    }

pub returns-clause-closed : goal.returns-clause-closed
returns-clause-closed c off =
    let all : length c.args.g.now.rules ≤ c.loop-done.done = omega arith in
    swept c.args.g.now c.loop-done.io.marks.items c.loop-done.done all (c.loop-done.invariant.swept.kept off)
