use Rattle.aw_apply.proofs.GuardLemmas.{missing_here, found_here}
use Rattle.aw_apply.proofs.guarding.end_of.Goals as goal

pub returns-in-Missing : goal.returns-in-Missing
returns-in-Missing g c r e = missing_here (g.F.Facts.map c.args.f.now) (g.F.Facts.names c.args.f.now) c.args.slot r e c.in-Missing.ensures

pub returns-in_default : goal.returns-in_default
returns-in_default g c r e = found_here (g.F.Facts.map c.args.f.now) (g.F.Facts.names c.args.f.now) c.args.slot c.kind.result r e c.kind.ensures
    c.in_default.not-Missing (λ s is. c.in_default.not-Same s is)
