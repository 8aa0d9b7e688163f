use Rattle.aw_apply.proofs.GuardLemmas.{found_live}
use Rattle.table_equations.proofs.Slots.{missing_live, round_live}
use Rattle.table_equations.proofs.case.chased.Goals as goal

pub returns-in-Found : goal.returns-in-Found
returns-in-Found g c = found_live (g.F.Facts.map c.args.f.now) (g.F.Facts.names c.args.f.now) c.args.slot c.in-Found.end c.requires c.in-Found.ensures

pub returns-in-Missing : goal.returns-in-Missing
returns-in-Missing g c = missing_live (g.F.Facts.map c.args.f.now) (g.F.Facts.names c.args.f.now) c.args.slot c.in-Missing.end c.requires c.in-Missing.ensures

pub returns-in-Circle : goal.returns-in-Circle
returns-in-Circle g c = round_live (g.F.Facts.map c.args.f.now) (g.F.Facts.names c.args.f.now) c.args.slot c.in-Circle.start c.requires c.in-Circle.ensures
