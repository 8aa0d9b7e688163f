use Rattle.std.proofs.Common.{◌≡◌, ◌≤◌, length}
use Rattle.aw_sched.specs.Readers.{IsReading, left}
use Rattle.aw_sched.proofs.reader.ScheduleReader.next.Given as goal

abbrev pub invariant-loop-line : goal.invariant-loop-line
invariant-loop-line l = record {
  reading : IsReading l.self;
  grammar : l.self.grammar.now ≡ l.initial.self.grammar.now;
  typed : l.self.typed.now ≡ l.initial.self.typed.now;
  same : left l.self ≡ left l.initial.self;
  shorter : length l.self.rest.now ≤ length l.initial.self.rest.now;
}

abbrev pub decreases-loop-line : goal.decreases-loop-line
decreases-loop-line l = length l.self.rest.now
