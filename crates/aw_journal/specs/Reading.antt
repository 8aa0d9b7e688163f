-- How a file is read: some bytes ahead of those that are asked for, and no more than is asked for.
use Rattle.std.specs.Prelude.{◌≡◌, ℕ, ◌+◌, ◌≤◌, ◌<◌, ◌^◌, List, IsTrue, length, take, drop, Result, IfErr, OnOk}
use Rattle.aw_disk.specs.declared.edge.Disk.{Ghosts}
use Rattle.aw_journal.specs.Journal.{Quiet}
use Rattle.aw_journal.specs.Openings.{IsReadFault}
use Rattle.aw_journal.specs.declared.reads.OpenFault.{OpenFault}
use Rattle.aw_journal.specs.declared.reads.Reader.{Reader}

-- the bytes that are held fit their room, and the file has a size
pub record HasRoom (r : Reader) : Type 0 where
  pub some : 0 < length r.ahead.items
  pub fits : r.held ≤ length r.ahead.items
  pub small : r.size < 2 ^ 64

-- the disk tells this file, and what the reader holds of it stands at its place there
pub record Reads {D : Type 0} (d : Ghosts D) (file : List ℕ) (disk : D) (r : Reader) : Type 0 where
  pub told : IsTrue (d.tells disk)
  pub seen_is : d.seen disk ≡ file
  pub size_is : r.size ≡ length file
  pub within : r.start + r.held ≤ length file
  pub same : take r.held r.ahead.items ≡ take r.held (drop r.start file)

-- nothing was written, at most synced and read, and a fault is of the disk or of memory
pub record OnlyReads {D T : Type 0} (d : Ghosts D) (result : Result T OpenFault) (old new : D) : Type 0 where
  pub quiet : Quiet d.tells d.seen d.may_leave d.moment d.left_since old new
  pub never_falls : d.faults old ≤ d.faults new
  pub cause : IfErr result (IsReadFault (d.faults old) (d.faults new))
  pub kept : OnOk result (d.faults new ≡ d.faults old)
