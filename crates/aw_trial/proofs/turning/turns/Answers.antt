use Rattle.std.proofs.Common.{suc, ◌+◌, ◌∙◌, refl, arith}
use Rattle.aw_trial.proofs.Steps.{turned_on, few_more}
use Rattle.aw_trial.proofs.turning.turns.Goals as goal

pub loop-preserved : goal.loop-preserved
loop-preserved g c =
    let w = c.loop.world in
    let n = c.loop.counter in
    record {
      accepted = c.turn.ensures.accepted ∙ c.loop.invariant.accepted;
      loads = c.turn.ensures.loads ∙ c.loop.invariant.loads;
      does = turned_on g.W.Workspace c.args.world.now w c.turn.new.world c.args.tally.now c.loop.tally c.turn.new.tally n (n + 1) refl
          c.loop.invariant.accepted c.loop.invariant.does c.in_ok-turn.ensures.does;
      few = few_more (suc n) (n + 1) c.turn.new.tally (omega arith) (c.in_ok-turn.ensures.grows n c.loop.invariant.few);
    }
