use Rattle.aw_iograph.specs.Growth.{unset}
use Rattle.aw_iograph.specs.Visiting.{AreVisited}
use Rattle.aw_iograph.specs.Widening.{IsWidened}
use Rattle.aw_iograph.proofs.settle.settle.Given as goal

abbrev pub invariant-loop-visits : goal.invariant-loop-visits
invariant-loop-visits l =
    record {
      widened : IsWidened l.g l.initial.io l.io;
      visited : AreVisited l.g l.io l.visits;
    }

abbrev pub decreases-loop-visits : goal.decreases-loop-visits
decreases-loop-visits l = unset l.io.marks.items
