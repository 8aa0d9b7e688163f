use Rattle.std.proofs.Common.{◌∙◌, arith}
use Rattle.aw_journal.proofs.Beginnings.{nothing_behind}
use Rattle.aw_journal.proofs.Readings.{passed_err, read_ok, read_then}
use Rattle.aw_journal.proofs.beginning.head_at.Goals as goal

pub returns-then-not-branch-clause-found : goal.returns-then-not-branch-clause-found
returns-then-not-branch-clause-found g c file told h =
    let first = c.in_ok-front.ensures in
    let front = rw c.in-Some.is at first.found file told h in
    let ended = c.in_ok-goes_to.ensures.ended file (first.only.same_bytes ∙ told) (first.holds file told h) c.if-not-branch.true in
    nothing_behind file c.in-Some.front.role c.in-Some.front.count front (omega (arith, ended))

pub returns-in_err-text-clause-only : goal.returns-in_err-text-clause-only
returns-in_err-text-clause-only g c =
    passed_err g.P.Pages _ _ _ _ c.from_residual-in_err-text.ensures.1
    (read_then g.P.Pages g.met.P.Pages.read_on _ _ _ _ _ c.in_ok-front.ensures.only (read_then g.P.Pages g.met.P.Pages.read_on _ _ _ _ _ c.in_ok-goes_to.ensures.only c.in_err-text.ensures.only))

pub returns-in-Some-2-clause-only : goal.returns-in-Some-2-clause-only
returns-in-Some-2-clause-only g c =
    read_ok g.P.Pages _ _ _ _
    (read_then g.P.Pages g.met.P.Pages.read_on _ _ _ _ _ c.in_ok-front.ensures.only (read_then g.P.Pages g.met.P.Pages.read_on _ _ _ _ _ c.in_ok-goes_to.ensures.only c.in_ok-text.ensures.only))

pub returns-in-None-2-clause-only : goal.returns-in-None-2-clause-only
returns-in-None-2-clause-only g c =
    read_ok g.P.Pages _ _ _ _
    (read_then g.P.Pages g.met.P.Pages.read_on _ _ _ _ _ c.in_ok-front.ensures.only (read_then g.P.Pages g.met.P.Pages.read_on _ _ _ _ _ c.in_ok-goes_to.ensures.only c.in_ok-text.ensures.only))
