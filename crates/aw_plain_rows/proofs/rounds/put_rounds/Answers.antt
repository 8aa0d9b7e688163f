use Rattle.std.proofs.Common.{◌+◌, ◌-◌, length, ap, ◌∙◌}
use Rattle.aw_term.specs.Configs.{Row, put, row_put, rounds}
use Rattle.aw_plain_rows.specs.TreeView.{values_of}
use Rattle.aw_plain_rows.specs.RowView.{plain_row}
use Rattle.aw_plain_rows.proofs.RoundLemmas.{one_round}
use Rattle.aw_plain_rows.proofs.rounds.put_rounds.Goals as goal

pub loop-round-preserved : goal.loop-round-preserved
loop-round-preserved c =
    let results = c.args.results.now in
    let f : Row → Row = row_put (put c.args.node.now (values_of results)) in
    let n = length results in
    let i = c.loop-round._round in
    ap (rounds (n - (i + 1)) f) c.in_ok-row.ensures
    ∙ one_round f n i (plain_row c.loop-round.row) c.loop-round-test.true
    ∙ c.loop-round.invariant
