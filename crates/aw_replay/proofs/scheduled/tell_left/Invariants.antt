use Rattle.std.proofs.Common.{◌≡◌, length}
use Rattle.aw_sched.specs.Readers.{IsReading}
use Rattle.aw_replay.specs.Replays.{IsNamed}
use Rattle.aw_replay.proofs.WhileRead.{AreTold}
use Rattle.aw_replay.proofs.scheduled.tell_left.Given as goal

-- some events were read, and what is kept of them was replayed
abbrev pub invariant-loop-event : goal.invariant-loop-event
invariant-loop-event g l = record {
  reading : IsReading l.reader;
  grammar : l.reader.grammar.now ≡ l.initial.reader.grammar.now;
  typed : l.reader.typed.now ≡ l.initial.reader.typed.now;
  named : IsNamed g.W.Workspace (l.world, l.replay);
  accepted : l.world.accepted.now ≡ l.initial.world.accepted.now;
  loads : l.world.loads ≡ l.initial.world.loads;
  told : AreTold g.W.Workspace l.kept l.initial.reader (l.initial.world, l.initial.replay) l.reader (l.world, l.replay);
}

abbrev pub decreases-loop-event : goal.decreases-loop-event
decreases-loop-event g l = length l.reader.rest.now
