use Rattle.std.specs.Prelude.{◌≡◌, ℕ, ◌+◌, ◌<◌, ◌-◌, ◌^◌, ◌++◌, List, length, drop}
use Rattle.aw_journal.specs.Format.{records}
use Rattle.aw_journal.specs.Events.{AllEvents}
use Rattle.aw_journal.specs.EventView.{events_seen}
use Rattle.aw_journal.specs.Journal.{Quiet}
use Rattle.aw_journal.specs.Reading.{HasRoom, Reads}
use Rattle.aw_journal.proofs.scan.scan.Given as goal

abbrev pub invariant-loop-events : goal.invariant-loop-events
invariant-loop-events g l = record {
  room : HasRoom l.reader;
  place : l.gate ≡ l.from + length (records (events_seen l.events.items));
  fits : l.gate + 1 < 2 ^ 64;
  all : AllEvents (events_seen l.events.items);
  quiet : Quiet g.D.Disk.tells g.D.Disk.seen g.D.Disk.may_leave g.D.Disk.moment g.D.Disk.left_since l.fn.disk l.disk;
  unfailed : g.D.Disk.faults l.disk ≡ g.D.Disk.faults l.fn.disk;
  reads : (file : List ℕ) → Reads g.D.Disk file l.fn.disk l.fn.reader → Reads g.D.Disk file l.disk l.reader;
  within : (file : List ℕ) → Reads g.D.Disk file l.fn.disk l.fn.reader → l.from < length file → l.gate < length file;
  parts : (file : List ℕ) → Reads g.D.Disk file l.fn.disk l.fn.reader → l.from < length file → drop l.from file ≡ records (events_seen l.events.items) ++ drop l.gate file;
}

abbrev pub decreases-loop-events : goal.decreases-loop-events
decreases-loop-events g l = l.reader.size - l.gate
