use Rattle.aw_cells.proofs.SlotLemmas.{each_named}
use Rattle.aw_cells.specs.TableView.{names_of}
use Rattle.aw_cells.proofs.cells.CellFactsFacts.reserve.Goals as goal

pub returns-clause-ready : goal.returns-clause-ready
returns-clause-ready c = each_named c.name_equations.result (names_of c.name_equations.new.t) c.args.es.now c.as_slice.result.now c.as_slice.ensures c.name_equations.ensures.ok
