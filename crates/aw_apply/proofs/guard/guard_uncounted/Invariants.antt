use Rattle.aw_apply.proofs.guard.guard_uncounted.Given as goal

abbrev pub ghosts-guard_in_ledger : goal.ghosts-guard_in_ledger
ghosts-guard_in_ledger g a = record { name = a.blank.name; parts = a.blank.parts }
