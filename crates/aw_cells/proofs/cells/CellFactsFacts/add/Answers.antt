use Rattle.aw_store.proofs.NameLemmas.{has_names_of-grown}
use Rattle.aw_cells.proofs.cells.CellFactsFacts.add.Goals as goal

pub returns-clause-kept_ready : goal.returns-clause-kept_ready
returns-clause-kept_ready c = λ h x w. has_names_of-grown _ _ x c.add_to.ensures.grows w

pub returns-clause-ready : goal.returns-clause-ready
returns-clause-ready c = λ h x w. has_names_of-grown _ _ x c.add_to.ensures.grows w
