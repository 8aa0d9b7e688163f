-- Faults of a schedule and of printing as those of a replay.
use Rattle.std.specs.declared.result.Result.{Result}
use Rattle.std.specs.declared.result.Result.TheVariants.{Ok, Err}
use Rattle.aw_out.specs.Report.{Bounded}
use Rattle.aw_out.specs.declared.error.PrintFault.{PrintFault}
use Rattle.aw_out.specs.declared.error.PrintFault.TheVariants as print
use Rattle.aw_sched.specs.declared.fault.SchedFault.{SchedFault}
use Rattle.aw_sched.specs.declared.fault.SchedFault.TheVariants as read
use Rattle.aw_replay.specs.declared.scheduled.ReplayFault.{ReplayFault}
use Rattle.aw_replay.specs.declared.scheduled.ReplayFault.TheVariants.{Bad, TooLarge, NoMemory}

-- a faulty line, or out of memory in reading it
abbrev pub of_schedule : SchedFault → ReplayFault
of_schedule (read.Bad line kind) = Bad line kind
of_schedule read.NoMemory = NoMemory

-- too long a text, or out of memory in printing it
abbrev pub of_printing : PrintFault → ReplayFault
of_printing print.TooLarge = TooLarge
of_printing print.NoMemory = NoMemory

-- what comes of a replay whose ending was told
abbrev pub after_end : Result Bounded PrintFault → Result Bounded ReplayFault
after_end (Ok report) = Ok report
after_end (Err fault) = Err (of_printing fault)
