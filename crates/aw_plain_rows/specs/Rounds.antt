-- Rounds of replacing the holes of a node in a row.
use Rattle.std.specs.Prelude.{List, length}
use Rattle.aw_term.specs.Names.{Node}
use Rattle.aw_term.specs.Rules.{Value}
use Rattle.aw_term.specs.Configs.{Row, put, row_put, rounds}

-- a row with all holes of n replaced as many times as n has results
abbrev pub row_fed : Node → List Value → Row → Row
row_fed n results q = rounds (length results) (row_put (put n results)) q
