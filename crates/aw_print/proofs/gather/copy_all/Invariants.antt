use Rattle.std.proofs.Common.{◌≡◌, ◌-◌, ◌≤◌, []}
use Rattle.std.specs.Prelude.{slice_range}
use Rattle.aw_out.specs.Report.{printed}
use Rattle.aw_print.proofs.gather.copy_all.Given as goal

abbrev pub invariant-loop-at : goal.invariant-loop-at
invariant-loop-at l = record {
  none : l.text ≡ [];
  from : l.from ≤ l.at;
  until : l.at ≤ l.until;
  copied : l.report ≡ printed l.fn.report (slice_range l.fn.report.text l.from l.at);
}

abbrev pub decreases-loop-at : goal.decreases-loop-at
decreases-loop-at l = l.until - l.at
