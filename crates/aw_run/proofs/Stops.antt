-- What follows where a run was stopped, and where it was not.
use Rattle.std.proofs.Common.{◌≡◌, ◌⊎◌, ℕ, List, IfSome, None, Some, true, inl, inr, refl, sym, subst}
use Rattle.std.specs.declared.option.Option.{Option}
use Rattle.aw_run.specs.Devices.{Devices}
use Rattle.aw_run.specs.Replies.{IsDoneOrStopped, IsGood, uses_disk, uses_wire}
use Rattle.aw_run.specs.Statuses.{IsReply, IsStop, IsRefusal, IsJournalStop, status_of_stop}
use Rattle.aw_run.specs.Words.{command_of}
use Rattle.aw_front.specs.declared.reply.Status.{Status}
use Rattle.aw_front.specs.declared.reply.Status.TheVariants.{Done, Usage, BadSpec, Circular, BadSchedule, TooLarge, ReadFault, WriteFault, NetFault}
use Rattle.aw_front.specs.declared.reply.Status.TheVariants.{NoMemory, TooLong, BadTypes, DiskFault, BadJournal, JournalFull, BadReply}
use Rattle.aw_run.specs.declared.reply.Stop.{Stop}
use Rattle.aw_run.specs.declared.reply.Stop.TheVariants as stop

-- a reply is no stop
not-both : (s : Status) → IsReply s → IsStop s → ⊥
not-both Done reply stop = absurd stop
not-both Usage reply stop = absurd stop
not-both BadSpec reply stop = absurd stop
not-both Circular reply stop = absurd stop
not-both BadSchedule reply stop = absurd stop
not-both TooLarge reply stop = absurd stop
not-both ReadFault reply stop = absurd reply
not-both WriteFault reply stop = absurd reply
not-both NetFault reply stop = absurd reply
not-both NoMemory reply stop = absurd reply
not-both TooLong reply stop = absurd stop
not-both BadTypes reply stop = absurd stop
not-both DiskFault reply stop = absurd reply
not-both BadJournal reply stop = absurd reply
not-both JournalFull reply stop = absurd reply
not-both BadReply reply stop = absurd stop

-- where there was a reply nothing stopped the run, though the sink may have failed
pub never-stops : {A : Type 0} (said told : Status) → IsReply said → (told ≡ said) ⊎ (told ≡ WriteFault) → IsStop told → A
never-stops said told reply (inl is) stop = absurd (not-both said reply (subst IsStop is stop))
never-stops said told reply (inr failed) stop = let none : IsStop WriteFault = subst IsStop failed stop in absurd none

pub journal-stops : (s : Status) → IsJournalStop s → IsStop s
journal-stops Done stop = absurd stop
journal-stops Usage stop = absurd stop
journal-stops BadSpec stop = absurd stop
journal-stops Circular stop = absurd stop
journal-stops BadSchedule stop = absurd stop
journal-stops TooLarge stop = absurd stop
journal-stops ReadFault stop = absurd stop
journal-stops WriteFault stop = absurd stop
journal-stops NetFault stop = absurd stop
journal-stops NoMemory stop = absurd stop
journal-stops TooLong stop = absurd stop
journal-stops BadTypes stop = absurd stop
journal-stops DiskFault stop = tt
journal-stops BadJournal stop = tt
journal-stops JournalFull stop = tt
journal-stops BadReply stop = absurd stop

-- what a refusal left as it was, it left so where it was told
pub refused-told : {A : Type 0} (said told : Status) → (told ≡ said) ⊎ (told ≡ WriteFault) → (IsRefusal said → A) → IsRefusal told → A
refused-told said told (inl is) left refusal = left (subst IsRefusal is refusal)
refused-told said told (inr failed) left refusal = let none : IsRefusal WriteFault = subst IsRefusal failed refusal in absurd none

stopped-so : (words : List (List ℕ)) (s : Stop) → (s ≡ stop.NetFault → uses_wire (command_of words) ≡ true) →
    (IsJournalStop (status_of_stop s) → uses_disk (command_of words) ≡ true) → IsDoneOrStopped (command_of words) (status_of_stop s)
stopped-so words stop.ReadFault wired disked = inr (inr (inl refl))
stopped-so words stop.NetFault wired disked = inr (inr (inr (inr (inl (refl, wired refl)))))
stopped-so words stop.DiskFault wired disked = inr (inr (inr (inr (inr (inl (tt, disked tt))))))
stopped-so words stop.BadJournal wired disked = inr (inr (inr (inr (inr (inl (tt, disked tt))))))
stopped-so words stop.JournalFull wired disked = inr (inr (inr (inr (inr (inl (tt, disked tt))))))
stopped-so words stop.NoMemory wired disked = inr (inl refl)

-- a run that was stopped was stopped by one of these
pub stop-complete : (left : Option (List ℕ)) (words : List (List ℕ)) (devices : Devices) (s : Stop) (told : Status) → told ≡ status_of_stop s →
    (s ≡ stop.NetFault → uses_wire (command_of words) ≡ true) → (IsJournalStop (status_of_stop s) → uses_disk (command_of words) ≡ true) →
    IfSome left (λ input. IsGood words input devices → IsDoneOrStopped (command_of words) told)
stop-complete None words devices s told is wired disked = tt
stop-complete (Some input) words devices s told is wired disked = λ good. subst (IsDoneOrStopped (command_of words)) (sym is) (stopped-so words s wired disked)
