use Rattle.std.proofs.Common.{refl, sym, subst}
use Rattle.aw_journal.specs.EventView.{event_of}
use Rattle.aw_journal.specs.Pieces.{Holds}
use Rattle.aw_journal.specs.Records.{IsBehind, reached}
use Rattle.aw_journal.proofs.RecordSteps.{behind_end, behind_next}
use Rattle.aw_journal.proofs.records.Records.next.Goals as goal

pub returns-in-Some-clause-next : goal.returns-in-Some-clause-next
returns-in-Some-clause-next g c file events told before =
    let r = c.self.inside in
    let at = subst (IsBehind file events) (sym c.self.view_is) before in
    let holds : Holds file r.reader = record { below = at.own.below; within = at.own.within; same = at.own.same } in
    let found = rw c.in-Some.is at c.in_ok-event.ensures.found file told holds in
    let good = rw c.in-Some.is at c.in_ok-event.ensures.event in
    let now = c.in_ok-event.ensures.holds file told holds in
    behind_next file events (reached r) (reached (record { headed = r.headed; gate = c.in-Some.gate; reader = c.next_event.new.reader })) at
    (record { below = now.below; within = now.within; same = now.same }) refl (event_of c.in-Some.event) good found

pub returns-in-None-clause-next : goal.returns-in-None-clause-next
returns-in-None-clause-next g c file events told before =
    let r = c.self.inside in
    let at = subst (IsBehind file events) (sym c.self.view_is) before in
    let holds : Holds file r.reader = record { below = at.own.below; within = at.own.within; same = at.own.same } in
    let none = rw c.in-None.is at c.in_ok-event.ensures.found file told holds in
    let now = c.in_ok-event.ensures.holds file told holds in
    behind_end file events (reached r) (reached (record { headed = r.headed; gate = r.gate; reader = c.next_event.new.reader })) at
    (record { below = now.below; within = now.within; same = now.same }) refl refl none
