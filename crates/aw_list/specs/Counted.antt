-- A list that is counted, or none.
use Rattle.std.specs.Prelude.{List, [], Option, Some, None}
use Rattle.std.specs.Rc.{rc_slice_items}
use Rattle.std.specs.declared.rc.RcSlice.{RcSlice}

-- the items, where memory was taken for them
abbrev pub items_of : {X Z : Type 0} → Option (RcSlice X Z) → List X
items_of None = []
items_of (Some it) = rc_slice_items it
