use Rattle.aw_site.proofs.uncounted.list.Given as goal

abbrev pub ghosts-list_in_ledger : goal.ghosts-list_in_ledger
ghosts-list_in_ledger g a = record { name = a.blank.name; parts = a.blank.parts }
