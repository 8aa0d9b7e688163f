use Rattle.aw_site.proofs.uncounted.conclude.Given as goal

abbrev pub ghosts-conclude_in_ledger : goal.ghosts-conclude_in_ledger
ghosts-conclude_in_ledger g a = record { name = a.blank.name; parts = a.blank.parts }
