-- The exit code of each end of a run.
use Rattle.std.specs.Prelude.{ℕ}
use Rattle.aw_front.specs.declared.reply.Status.{Status}
use Rattle.aw_front.specs.declared.reply.Status.TheVariants.{Done, Usage, BadSpec, Circular, BadSchedule, TooLarge, ReadFault, WriteFault, NetFault}
use Rattle.aw_front.specs.declared.reply.Status.TheVariants.{NoMemory, TooLong, BadTypes, DiskFault, BadJournal, JournalFull, BadReply}

-- the exit code
abbrev pub code_of : Status → ℕ
code_of Done = 0
code_of Usage = 2
code_of BadSpec = 3
code_of Circular = 4
code_of BadSchedule = 5
code_of TooLarge = 6
code_of ReadFault = 7
code_of WriteFault = 8
code_of NetFault = 9
code_of NoMemory = 10
code_of TooLong = 11
code_of DiskFault = 12
code_of BadJournal = 13
code_of BadReply = 14
code_of BadTypes = 15
code_of JournalFull = 16
