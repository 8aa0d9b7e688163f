use Rattle.std.proofs.Common.{◌≡◌, length}
use Rattle.aw_sched.specs.Readers.{AreRead, IsReading, left}
use Rattle.aw_sched.proofs.reader.read_schedule.Given as goal

abbrev pub invariant-loop-events : goal.invariant-loop-events
invariant-loop-events l = record {
  reading : IsReading l.reader;
  grammar : l.reader.grammar.now ≡ l.initial.reader.grammar.now;
  typed : l.reader.typed.now ≡ l.initial.reader.typed.now;
  read : AreRead l.initial.reader l.events (left l.reader);
}

abbrev pub decreases-loop-events : goal.decreases-loop-events
decreases-loop-events l = length l.reader.rest.now
