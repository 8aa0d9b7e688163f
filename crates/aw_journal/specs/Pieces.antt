-- How a file is read: some bytes ahead of those that are asked for, and no more than is asked for.
use Rattle.std.specs.Prelude.{◌≡◌, ℕ, ◌+◌, ◌≤◌, ◌<◌, ◌^◌, List, length, take, drop, Result, IfErr, OnOk}
use Rattle.aw_out.specs.Causes.{Rose}
use Rattle.aw_disk.specs.declared.pages.Pages.{Ghosts}
use Rattle.aw_journal.specs.declared.pieces.ReadFault.{ReadFault}
use Rattle.aw_journal.specs.declared.pieces.ReadFault.TheVariants.{Failed, NoMemory}
use Rattle.aw_journal.specs.declared.pieces.Reader.{Reader}

-- the bytes that are held fit their room, and stand before the end
pub record HasRoom (r : Reader) : Type 0 where
  pub some : 0 < length r.ahead.items
  pub few : length r.ahead.items ≤ 65536
  pub fits : r.held ≤ length r.ahead.items
  pub before : r.start + r.held ≤ r.end
  pub small : r.end < 2 ^ 64

-- what is held stands at its place in the file, which ends where it is said to, or before
pub record Holds (file : List ℕ) (r : Reader) : Type 0 where
  pub below : length file ≤ r.end
  pub within : r.start + r.held ≤ length file
  pub same : take r.held r.ahead.items ≡ take r.held (drop r.start file)

-- why a file is not read: a call failed, or there is no memory
abbrev pub IsReadFault : ℕ → ℕ → ReadFault → Type 0
IsReadFault before now Failed = Rose before now
IsReadFault before now NoMemory = now ≡ before

-- the file was read, and a fault is its own or of memory
pub record OnlyReads {P T : Type 0} (p : Ghosts P) (result : Result T ReadFault) (old new : P) : Type 0 where
  pub same_bytes : p.bytes new ≡ p.bytes old
  pub read : p.was_read old new
  pub never_falls : p.faults old ≤ p.faults new
  pub cause : IfErr result (IsReadFault (p.faults old) (p.faults new))
  pub kept : OnOk result (p.faults new ≡ p.faults old)
