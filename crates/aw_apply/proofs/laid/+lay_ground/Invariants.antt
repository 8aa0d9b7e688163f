use Rattle.std.proofs.Common.{◌≡◌, ◌+◌, ◌*◌, ◌≤◌, map, drop}
use Rattle.aw_term.specs.WellFormed.{symbols, symbols_of}
use Rattle.aw_term.specs.Views.{ground_of}
use Rattle.aw_store.specs.EquationView.{equation_of}
use Rattle.aw_apply.specs.Made.{lay_list}
use Rattle.aw_apply.specs.MadeView.{all_of, laid_behind}
use Rattle.aw_apply.proofs.LayLemmas.{joined}
use Rattle.aw_apply.proofs.laid.+lay_ground.Given as goal

abbrev pub invariant-lay_grounds-loop-ground : goal.invariant-lay_grounds-loop-ground
invariant-lay_grounds-loop-ground l =
    (joined (all_of (map equation_of l.equations.items) l.all) (lay_list l.node (λ x. elim x [ ]) l.all.next
    (map ground_of (drop l.ground-index l.grounds))) ≡ laid_behind (map equation_of l.fn.equations.items)
    (lay_list l.node (λ x. elim x [ ]) l.k (map ground_of l.grounds)))
    × (l.all.next + symbols_of (map ground_of (drop l.ground-index l.grounds)) ≤ 65535)

abbrev pub decreases-lay_ground : goal.decreases-lay_ground
decreases-lay_ground l = 2 * symbols (ground_of l.ground.now)

abbrev pub decreases-lay_grounds : goal.decreases-lay_grounds
decreases-lay_grounds l = 2 * symbols_of (map ground_of l.grounds.now) + 1
