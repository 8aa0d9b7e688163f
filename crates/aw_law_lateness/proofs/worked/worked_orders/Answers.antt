use Rattle.std.proofs.Common.{refl}
use Rattle.aw_law_lateness.proofs.worked.worked_orders.Goals as goal

pub returns : goal.returns
returns c = record { orders = (refl, refl, refl, refl) }
