use Rattle.std.proofs.Common.{rules, arith, ◌∙◌, sym, codes}
use Rattle.std.proofs.lemmas.Slice.Eq.{HasBytesAt}
use Rattle.aw_sched.proofs.PlainLines.{settle_gives, deliver_gives}
use Rattle.aw_sched.proofs.read.plain_event.Goals as goal

pub returns-in-115-clause-reads : goal.returns-in-115-clause-reads
returns-in-115-clause-reads c t d =
    let line = c.args.line.now in
    let bytes : HasBytesAt line 0 (codes "settle") = search rules in
    settle_gives t d line (omega (arith, c.in-115.len_at_least, c.in-115.len_below)) bytes

pub returns-in_ok-number_value-in-100-clause-reads : goal.returns-in_ok-number_value-in-100-clause-reads
returns-in_ok-number_value-in-100-clause-reads c t d =
    let line = c.args.line.now in
    let found = c.in_ok-number_value-in-100 in
    let bytes : HasBytesAt line 0 (codes "deliver ") = search rules in
    deliver_gives t d line found.field-0 (omega (arith, c.in-100.len_at_least)) bytes (sym c.number_value.ensures ∙ found.was)
