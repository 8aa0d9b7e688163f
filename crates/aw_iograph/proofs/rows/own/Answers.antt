use Rattle.aw_iograph.proofs.Joining.{own_bit}
use Rattle.aw_iograph.proofs.rows.own.Goals as goal

pub returns-then-place-lt-RESULTS : goal.returns-then-place-lt-RESULTS
returns-then-place-lt-RESULTS c = own_bit c.args.place c.if-place-lt-PLACES.true c.if-place-lt-RESULTS.true
