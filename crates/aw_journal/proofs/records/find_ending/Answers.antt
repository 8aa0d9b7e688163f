use Rattle.std.specs.Prelude.{◌≡◌, ◌-◌, length, drop}
use Rattle.std.proofs.Common.{◌∙◌, arith, length-drop}
use Rattle.aw_journal.proofs.Readings.{passed_err, read_ok, read_then}
use Rattle.aw_journal.proofs.Searches.{ending_is}
use Rattle.aw_journal.proofs.records.find_ending.Goals as goal

pub returns-clause-standing : goal.returns-clause-standing
returns-clause-standing g c file told h within =
    let tail = drop c.args.gate file in
    let first = c.in_ok-damaged.ensures in
    let second = c.in_ok-end.ensures in
    let told_then = first.only.same_bytes ∙ told in
    let h_then = first.holds file told h in
    let long : c.in_ok-end.end - c.args.gate ≡ length tail = omega (arith, second.long file told_then h_then within, length-drop c.args.gate file) in
    let asked = c.in_ok-ask.ensures.asked file (second.only.same_bytes ∙ told_then) (second.holds file told_then h_then) in
    ending_is tail c.args.headed _ c.in_ok-damaged.damaged _ (first.found file told h) (c.standing_of.ensures tail long (c.deref.ensures.value ∙ asked)) long

pub returns-in_err-ask-clause-only : goal.returns-in_err-ask-clause-only
returns-in_err-ask-clause-only g c =
    let so_far = read_then g.P.Pages g.met.P.Pages.read_on _ _ _ _ _ c.in_ok-damaged.ensures.only c.in_ok-end.ensures.only in
    passed_err g.P.Pages _ _ _ _ c.from_residual-in_err-ask.ensures.1 (read_then g.P.Pages g.met.P.Pages.read_on _ _ _ _ _ so_far c.in_err-ask.ensures.only)

pub returns-clause-only : goal.returns-clause-only
returns-clause-only g c =
    let so_far = read_then g.P.Pages g.met.P.Pages.read_on _ _ _ _ _ c.in_ok-damaged.ensures.only c.in_ok-end.ensures.only in
    read_ok g.P.Pages _ _ _ _ (read_then g.P.Pages g.met.P.Pages.read_on _ _ _ _ _ so_far c.in_ok-ask.ensures.only)
