-- How a run can end, and what each end says of it.
use Rattle.aw_kept_node.specs.declared.fault.KeptFault.{KeptFault}
use Rattle.aw_kept_node.specs.declared.fault.KeptFault.TheVariants as fault
use Rattle.aw_front.specs.declared.reply.Status.{Status}
use Rattle.aw_front.specs.declared.reply.Status.TheVariants.{Usage, BadSpec, Circular, BadSchedule, TooLarge, ReadFault, WriteFault, NetFault, NoMemory}
use Rattle.aw_front.specs.declared.reply.Status.TheVariants.{TooLong, BadTypes, DiskFault, BadJournal, JournalFull}
use Rattle.aw_run.specs.declared.reply.Stop.{Stop}
use Rattle.aw_run.specs.declared.reply.Stop.TheVariants as stop

-- what stopped a run, as how the run ended
abbrev pub status_of_stop : Stop → Status
status_of_stop stop.ReadFault = ReadFault
status_of_stop stop.NetFault = NetFault
status_of_stop stop.DiskFault = DiskFault
status_of_stop stop.BadJournal = BadJournal
status_of_stop stop.JournalFull = JournalFull
status_of_stop stop.NoMemory = NoMemory

-- a fault of a kept role, as one of a run
abbrev pub stop_of : KeptFault → Stop
stop_of fault.NetFault = stop.NetFault
stop_of fault.DiskFault = stop.DiskFault
stop_of fault.BadHead = stop.BadJournal
stop_of (fault.BadEvent number) = stop.BadJournal
stop_of fault.Full = stop.JournalFull
stop_of fault.NoMemory = stop.NoMemory

-- the run was not stopped by a fault or by running out of memory
abbrev pub IsReply : Status → Type 0
IsReply ReadFault = ⊥
IsReply WriteFault = ⊥
IsReply NetFault = ⊥
IsReply NoMemory = ⊥
IsReply DiskFault = ⊥
IsReply BadJournal = ⊥
IsReply JournalFull = ⊥
IsReply _ = Unit {0}

-- there was nothing to reply
abbrev pub IsStop : Status → Type 0
IsStop ReadFault = Unit {0}
IsStop NetFault = Unit {0}
IsStop NoMemory = Unit {0}
IsStop DiskFault = Unit {0}
IsStop BadJournal = Unit {0}
IsStop JournalFull = Unit {0}
IsStop _ = ⊥

-- the disk or the journal on it stopped the run
abbrev pub IsJournalStop : Status → Type 0
IsJournalStop DiskFault = Unit {0}
IsJournalStop BadJournal = Unit {0}
IsJournalStop JournalFull = Unit {0}
IsJournalStop _ = ⊥

-- the words or what was read were refused, or the source was not read to its end, before anything was served
abbrev pub IsRefusal : Status → Type 0
IsRefusal Usage = Unit {0}
IsRefusal BadSpec = Unit {0}
IsRefusal Circular = Unit {0}
IsRefusal BadSchedule = Unit {0}
IsRefusal TooLarge = Unit {0}
IsRefusal ReadFault = Unit {0}
IsRefusal TooLong = Unit {0}
IsRefusal BadTypes = Unit {0}
IsRefusal _ = ⊥

-- the run came past reading
abbrev pub IsPastReading : Status → Type 0
IsPastReading ReadFault = ⊥
IsPastReading NoMemory = ⊥
IsPastReading TooLong = ⊥
IsPastReading _ = Unit {0}

-- these answers leave the sink alone
abbrev pub IsSilent : Status → Type 0
IsSilent ReadFault = Unit {0}
IsSilent NetFault = Unit {0}
IsSilent NoMemory = Unit {0}
IsSilent TooLong = Unit {0}
IsSilent TooLarge = Unit {0}
IsSilent DiskFault = Unit {0}
IsSilent BadJournal = Unit {0}
IsSilent JournalFull = Unit {0}
IsSilent _ = ⊥
