use Rattle.std.proofs.Common.{◌+◌, ◌*◌, ◌≤◌}
use Rattle.aw_plain_rows.specs.Places.{places, places_of_all, places_open, rank}
use Rattle.aw_plain_rows.proofs.tree.+emptying.Given as goal

abbrev pub decreases-Tree::drop : goal.decreases-Tree::drop
decreases-Tree::drop l = 2 * places l.self

abbrev pub decreases-let_go : goal.decreases-let_go
decreases-let_go l = 2 * places_of_all l.parts.value.items + 1

abbrev pub decreases-hang_rest : goal.decreases-hang_rest
decreases-hang_rest l = 2 * places_of_all l.parts.value.items + 2 * places_of_all l.rest.value.items + 3

abbrev pub invariant-Tree::drop-loop-self : goal.invariant-Tree::drop-loop-self
invariant-Tree::drop-loop-self l = places l.self + places_open l.open ≤ places l.fn.self

abbrev pub decreases-Tree::drop-loop-self : goal.decreases-Tree::drop-loop-self
decreases-Tree::drop-loop-self l = rank (places l.self + places_open l.open) (places l.self)

abbrev pub invariant-let_go-loop-list : goal.invariant-let_go-loop-list
invariant-let_go-loop-list l = places_of_all l.list.items ≤ places_of_all l.fn.parts.value.items

abbrev pub decreases-let_go-loop-list : goal.decreases-let_go-loop-list
decreases-let_go-loop-list l = places_of_all l.list.items
