use Rattle.std.proofs.Common.{rules}
use Rattle.aw_subs.proofs.EntryLemmas.{WritesDerived, writes_derived}
use Rattle.aw_subs.proofs.subs.add.Goals as goal

pub returns-clause-ok : goal.returns-clause-ok
returns-clause-ok c =
    let written : WritesDerived c.args.subs.now c.insert.new.self c.args.r.now c.args.sub = search rules in
    writes_derived c.args.subs.now c.insert.new.self c.args.r.now c.args.sub written
