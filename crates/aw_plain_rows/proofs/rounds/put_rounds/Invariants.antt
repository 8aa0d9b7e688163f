use Rattle.std.proofs.Common.{◌≡◌, ◌-◌, length}
use Rattle.aw_term.specs.Configs.{put, row_put, rounds}
use Rattle.aw_plain_rows.specs.TreeView.{values_of}
use Rattle.aw_plain_rows.specs.RowView.{plain_row}
use Rattle.aw_plain_rows.proofs.rounds.put_rounds.Given as goal

abbrev pub invariant-loop-round : goal.invariant-loop-round
invariant-loop-round l = rounds (length l.results - l._round) (row_put (put l.node (values_of l.results))) (plain_row l.row) ≡ rounds
    (length l.results) (row_put (put l.node (values_of l.results))) (plain_row l.fn.row)
