-- Rows that have the inherited values of their sorts.
use Rattle.std.specs.Prelude.{◌≡◌, length, slice_get}
use Rattle.aw_term.specs.Rules.{Grammar}
use Rattle.aw_term.specs.Configs.{Row, Config}
use Rattle.aw_term.specs.WellFormed.{Each, takes_of}

-- a row has as many inherited values as its sort takes
abbrev pub IsFilled : Grammar → Row → Type 0
IsFilled g q = length q.inherited ≡ takes_of (slice_get g.sorts q.sort)

-- each row of a configuration has as many inherited values as its sort takes
abbrev pub AreFilled : Grammar → Config → Type 0
AreFilled g c = Each (IsFilled g) c
