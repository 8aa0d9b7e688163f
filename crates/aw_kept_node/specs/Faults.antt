-- Which fault of serving comes from which fault of the journal.
use Rattle.aw_journal.specs.declared.reads.OpenFault.{OpenFault}
use Rattle.aw_journal.specs.declared.reads.OpenFault.TheVariants as opening
use Rattle.aw_journal.specs.declared.journal.AppendFault.{AppendFault}
use Rattle.aw_journal.specs.declared.journal.AppendFault.TheVariants as append
use Rattle.aw_kept_node.specs.declared.fault.KeptFault.{KeptFault}
use Rattle.aw_kept_node.specs.declared.fault.KeptFault.TheVariants.{DiskFault, BadHead, Full, NoMemory}

-- a fault of opening the journal, as one of serving
abbrev pub of_opening : OpenFault → KeptFault
of_opening opening.DiskFault = DiskFault
of_opening opening.BadHead = BadHead
of_opening opening.Full = Full
of_opening opening.NoMemory = NoMemory

-- a fault of appending to the journal, as one of serving
abbrev pub of_append : AppendFault → KeptFault
of_append append.DiskFault = DiskFault
of_append append.Full = Full
of_append append.NoMemory = NoMemory
