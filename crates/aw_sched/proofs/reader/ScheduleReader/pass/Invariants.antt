use Rattle.std.proofs.Common.{◌≡◌, List, length}
use Rattle.aw_sched.specs.Readers.{AreRead, IsReading, left}
use Rattle.aw_sched.specs.declared.event.Event.{Event}
use Rattle.aw_sched.proofs.reader.ScheduleReader.pass.Given as goal

abbrev pub invariant-loop-event : goal.invariant-loop-event
invariant-loop-event l = record {
  reading : IsReading l.self;
  grammar : l.self.grammar.now ≡ l.initial.self.grammar.now;
  typed : l.self.typed.now ≡ l.initial.self.typed.now;
  read : (es : List Event) × AreRead l.initial.self es (left l.self);
}

abbrev pub decreases-loop-event : goal.decreases-loop-event
decreases-loop-event l = length l.self.rest.now
