use Rattle.std.proofs.Common.{rules, ◌≡◌, Ok, Err, refl}
use Rattle.aw_replay.specs.Faults.{of_printing}
use Rattle.aw_replay.proofs.scheduled.finish.Goals as goal

pub returns-in_err-finish : goal.returns-in_err-finish
returns-in_err-finish g c =
    let same : c.from_residual.result ≡ Err (of_printing c.in_err-finish.field-0.0) = search rules in
    (Err c.in_err-finish.field-0.0, c.in_err-finish.ensures.ends, same)

pub returns : goal.returns
returns g c = (Ok c.in_ok-finish.field-0, c.in_ok-finish.ensures.ends, refl)
