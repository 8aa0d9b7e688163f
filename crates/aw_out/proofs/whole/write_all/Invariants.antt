use Rattle.std.proofs.Common.{◌≡◌, ◌≤◌, ◌-◌, length, take}
use Rattle.aw_out.specs.Edge.{Gets}
use Rattle.aw_out.proofs.whole.write_all.Given as goal

abbrev pub invariant-loop-done : goal.invariant-loop-done
invariant-loop-done g l = record {
  in_range : l.done ≤ length l.b;
  written : Gets (g.K.Sink.written l.fn.out) (g.K.Sink.written l.out) (take l.done l.b);
  kept : g.K.Sink.faults l.out ≡ g.K.Sink.faults l.fn.out;
  untouched : l.done ≡ 0 → l.out ≡ l.fn.out;
}

abbrev pub decreases-loop-done : goal.decreases-loop-done
decreases-loop-done g l = length l.b - l.done
