use Rattle.aw_print.proofs.EndsLemmas.{following_start, following_on}
use Rattle.aw_print.proofs.ends.Ends.end_from.Goals as goal

pub loop-i-init : goal.loop-i-init
loop-i-init g c = following_start (g.F.Facts.map c.args.f.now) (g.F.Facts.names c.args.f.now) c.args.slot c.requires.live

pub look-requires-clause-live : goal.look-requires-clause-live
look-requires-clause-live g c = c.loop-i.invariant.live

pub loop-i-preserved : goal.loop-i-preserved
loop-i-preserved g c = following_on (g.F.Facts.map c.args.f.now) (g.F.Facts.names c.args.f.now) c.args.slot c.loop-i.at c.in-On.next c.in-On.ensures c.loop-i.invariant
