use Rattle.std.proofs.Common.{ap, sym, is_some}
use Rattle.aw_site_repeat.proofs.FindLemmas.{find_unnamed}
use Rattle.aw_site_repeat.proofs.finding.has_equation.Goals as goal

pub returns-in-None : goal.returns-in-None
returns-in-None g c =
    sym (ap is_some (find_unnamed (g.F.Facts.names c.args.facts.now) (g.F.Facts.map c.args.facts.now) c.args.r.now (g.met.F.Facts.all_named c.args.facts.now) c.in-None.ensures))
