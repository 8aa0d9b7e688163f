use Rattle.std.proofs.Common.{sym, subst, arith}
use Rattle.aw_journal.specs.Beginning.{Begins}
use Rattle.aw_journal.proofs.Beginnings.{begins_headless, begins_whole}
use Rattle.aw_journal.proofs.records.Records.begin.Goals as goal

pub returns-in-Some-clause-begins : goal.returns-in-Some-clause-begins
returns-in-Some-clause-begins g c file told =
    let fits = g.met.P.Pages.is_file c.args.pages.now file told in
    let holds = c.in_ok-reader.ensures.holds file (omega (arith, fits.bounded)) in
    let found = rw c.in-Some.is at c.in_ok-found.ensures.found file told holds in
    subst (Begins file) (sym c.behind_head.ensures)
    (begins_whole file c.in-Some.found.role c.in-Some.found.text c.head_at.new.reader found.0 found.1 (c.in_ok-found.ensures.holds file told holds))

pub returns-in-None-clause-begins : goal.returns-in-None-clause-begins
returns-in-None-clause-begins g c file told =
    let fits = g.met.P.Pages.is_file c.args.pages.now file told in
    let holds = c.in_ok-reader.ensures.holds file (omega (arith, fits.bounded)) in
    subst (Begins file) (sym c.without_head.ensures)
    (begins_headless file c.head_at.new.reader (rw c.in-None.is at c.in_ok-found.ensures.found file told holds) (c.in_ok-found.ensures.holds file told holds))
