use Rattle.aw_site.proofs.uncounted.foresee.Given as goal

abbrev pub ghosts-foresee_in_ledger : goal.ghosts-foresee_in_ledger
ghosts-foresee_in_ledger g a = record { name = a.blank.name; parts = a.blank.parts }
