-- Rows in the order of their nodes.
use Rattle.std.specs.List.Sorted.{IsSortedBy}
use Rattle.aw_term.specs.Names.{node_lt}
use Rattle.aw_term.specs.Configs.{Row, Config}

-- no row comes before the one in front of it
abbrev pub IsOrdered : Config → Type 0
IsOrdered c = IsSortedBy (λ (p q : Row). node_lt p.node q.node) c
