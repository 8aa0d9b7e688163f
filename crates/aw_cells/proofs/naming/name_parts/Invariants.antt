use Rattle.std.proofs.Common.{◌≡◌, take, true, length}
use Rattle.aw_store.specs.NamedRefs.{Grows, NamesOnly}
use Rattle.aw_cells.specs.StoredBodies.{refs_of, all_below}
use Rattle.aw_cells.specs.TableView.{names_of, map_of, IsTable}
use Rattle.aw_cells.proofs.naming.name_parts.Given as goal

abbrev pub invariant-loop-r : goal.invariant-loop-r
invariant-loop-r l = record {
  table : IsTable l.t;
  grows : Grows (names_of l.fn.t) (names_of l.t);
  only : NamesOnly (names_of l.fn.t) (names_of l.t) l.refs;
  map : map_of l.t ≡ map_of l.fn.t;
  slots : refs_of (names_of l.t) l.slots.items ≡ take l.r-index l.refs;
  below : all_below (length (names_of l.t)) l.slots.items ≡ true;
  len : length l.slots.items ≡ l.r-index;
}
