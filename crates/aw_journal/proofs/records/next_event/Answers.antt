use Rattle.std.proofs.Common.{◌∙◌}
use Rattle.aw_journal.specs.EventView.{event_of}
use Rattle.aw_journal.specs.Fronts.{IsFront}
use Rattle.aw_journal.proofs.Fronts.{next_event, next_none}
use Rattle.aw_journal.proofs.Readings.{read_ok, read_then}
use Rattle.aw_journal.proofs.records.next_event.Goals as goal

pub returns-in-Some-2-clause-found : goal.returns-in-Some-2-clause-found
returns-in-Some-2-clause-found g c file told h =
    let n = c.in-Some.count in
    let front : IsFront file c.args.gate n = rw c.in-Some.is at c.in_ok-count.ensures.found file told h in
    let asked = c.in_ok-ask.ensures.asked file (c.in_ok-count.ensures.only.same_bytes ∙ told) (c.in_ok-count.ensures.holds file told h) in
    let found = rw c.in-Some-2.is at c.in_ok-event.ensures.found in
    next_event file c.deref.result.now c.args.gate n front (c.deref.ensures.value ∙ asked) (event_of c.in-Some-2.event) found.0 found.1

pub returns-in-None-2-clause-found : goal.returns-in-None-2-clause-found
returns-in-None-2-clause-found g c file told h =
    let n = c.in-Some.count in
    let front : IsFront file c.args.gate n = rw c.in-Some.is at c.in_ok-count.ensures.found file told h in
    let asked = c.in_ok-ask.ensures.asked file (c.in_ok-count.ensures.only.same_bytes ∙ told) (c.in_ok-count.ensures.holds file told h) in
    next_none file c.deref.result.now c.args.gate n front (c.deref.ensures.value ∙ asked) (rw c.in-None-2.is at c.in_ok-event.ensures.found)

pub returns-in-None-2-clause-only : goal.returns-in-None-2-clause-only
returns-in-None-2-clause-only g c =
    read_ok g.P.Pages _ _ _ _ (read_then g.P.Pages g.met.P.Pages.read_on _ _ _ _ _ c.in_ok-count.ensures.only c.in_ok-ask.ensures.only)
