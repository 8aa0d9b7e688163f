use Rattle.aw_site.proofs.uncounted.take_in.Given as goal

abbrev pub ghosts-take_in_ledger : goal.ghosts-take_in_ledger
ghosts-take_in_ledger g a = record { name = a.blank.name; parts = a.blank.parts }
