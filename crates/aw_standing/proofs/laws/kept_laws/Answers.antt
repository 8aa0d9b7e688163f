use Rattle.aw_standing.proofs.Growing.{kept_named, kept_grown}
use Rattle.aw_standing.proofs.ItemLemmas.{pairs_wait}
use Rattle.aw_standing.proofs.laws.kept_laws.Goals as goal

pub returns-clause-named : goal.returns-clause-named
returns-clause-named c g row k names more late kept grows f = kept_named names more grows g row.items k late row.numbers kept.records.items kept.work.waiting f

pub returns-clause-grown : goal.returns-clause-grown
returns-clause-grown c g row k l names late later kept more covers f = kept_grown k l names late later more covers g row.items row.numbers kept.records.items kept.work.waiting f

pub returns-clause-waiting : goal.returns-clause-waiting
returns-clause-waiting c g row k names kept slot r once named f = pairs_wait names once slot r named g k row.items row.numbers kept.records.items kept.work.waiting f
