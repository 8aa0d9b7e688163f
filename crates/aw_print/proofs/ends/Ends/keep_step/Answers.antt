use Rattle.std.proofs.Common.{sym, subst}
use Rattle.aw_print.specs.Ends.{EndsAt}
use Rattle.aw_print.proofs.EndsLemmas.{ends_more}
use Rattle.aw_print.proofs.ends.Ends.keep_step.Goals as goal

pub returns-in-On-clause-ends : goal.returns-in-On-clause-ends
returns-in-On-clause-ends g c =
    let k = g.F.Facts.map c.args.f.now in
    let names = g.F.Facts.names c.args.f.now in
    ends_more k names c.args.self.now c.keep.new.self c.args.at c.told_at.result c.in_ok-keep.ensures c.requires.ends (subst (EndsAt k names c.args.at) (sym c.told_at.ensures) c.requires.end)

pub returns-in-End-clause-ends : goal.returns-in-End-clause-ends
returns-in-End-clause-ends g c =
    let k = g.F.Facts.map c.args.f.now in
    let names = g.F.Facts.names c.args.f.now in
    ends_more k names c.args.self.now c.keep.new.self c.args.at c.told_at.result c.in_ok-keep.ensures c.requires.ends (subst (EndsAt k names c.args.at) (sym c.told_at.ensures) c.requires.end)
