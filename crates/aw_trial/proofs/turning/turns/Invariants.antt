use Rattle.std.proofs.Common.{◌≡◌}
use Rattle.aw_world.specs.WorldView.{plain_of}
use Rattle.aw_trial.specs.Turns.{turns}
use Rattle.aw_trial.specs.Comes.{Does, AreUpTo}
use Rattle.aw_trial.proofs.turning.turns.Given as goal

-- so many turns were made, and no count is more
abbrev pub invariant-loop : goal.invariant-loop
invariant-loop g l = record {
  accepted : l.world.accepted.now ≡ l.initial.world.accepted.now;
  loads : l.world.loads ≡ l.initial.world.loads;
  does : Does g.W.Workspace l.initial.world l.initial.tally l.world l.tally (turns l.counter (plain_of l.initial.world));
  few : AreUpTo l.counter l.tally;
}
