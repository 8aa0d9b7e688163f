use Rattle.aw_iograph.specs.Visiting.{AreVisited}
use Rattle.aw_iograph.proofs.Sweeps.{Sweeping}
use Rattle.aw_iograph.proofs.settle.sweep.Given as goal

abbrev pub invariant-loop-done : goal.invariant-loop-done
invariant-loop-done l =
    record {
      swept : Sweeping l.g l.initial.io l.io l.added l.done;
      visited : AreVisited l.g l.io l.visits;
    }
