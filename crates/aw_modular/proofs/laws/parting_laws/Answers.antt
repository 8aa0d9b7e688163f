use Rattle.aw_modular.proofs.PartsFit.{in_order, would_fit}
use Rattle.aw_modular.proofs.laws.parting_laws.Goals as goal

pub returns-clause-order : goal.returns-clause-order
returns-clause-order c g role ys are = in_order g role ys are

pub returns-clause-fit : goal.returns-clause-fit
returns-clause-fit c g ys are = would_fit g ys are
