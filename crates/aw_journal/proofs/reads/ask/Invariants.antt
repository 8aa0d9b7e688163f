use Rattle.std.specs.Prelude.{◌≡◌, ℕ, ◌≤◌, ◌-◌, List, length, take, drop}
use Rattle.aw_journal.specs.Journal.{Quiet}
use Rattle.aw_journal.specs.Reading.{HasRoom, Reads}
use Rattle.aw_journal.proofs.reads.ask.Given as goal

abbrev pub invariant-loop-reader : goal.invariant-loop-reader
invariant-loop-reader g l = record {
  room : HasRoom l.reader;
  size : l.reader.size ≡ l.fn.reader.size;
  most : length l.reader.asked.items ≤ l.count;
  quiet : Quiet g.D.Disk.tells g.D.Disk.seen g.D.Disk.may_leave g.D.Disk.moment g.D.Disk.left_since l.fn.disk l.disk;
  unfailed : g.D.Disk.faults l.disk ≡ g.D.Disk.faults l.fn.disk;
  reads : (file : List ℕ) → Reads g.D.Disk file l.fn.disk l.fn.reader → Reads g.D.Disk file l.disk l.reader;
  asked : (file : List ℕ) → Reads g.D.Disk file l.fn.disk l.fn.reader → l.reader.asked.items ≡ take (length l.reader.asked.items) (drop l.at file);
}

abbrev pub decreases-loop-reader : goal.decreases-loop-reader
decreases-loop-reader g l = l.count - length l.reader.asked.items
