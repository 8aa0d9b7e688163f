use Rattle.std.specs.Prelude.{◌≡◌, ◌+◌, length, None, option_map}
use Rattle.std.proofs.Common.{◌∙◌, ap, sym, arith}
use Rattle.aw_journal.specs.Events.{event_in, payload_of}
use Rattle.aw_journal.specs.EventView.{event_of}
use Rattle.aw_journal.specs.Scan.{Found}
use Rattle.aw_journal.proofs.Found.{next_event, next_none, whole_payload}
use Rattle.aw_journal.proofs.scan.next_event.Goals as goal

pub returns-then-len-count-clause-found : goal.returns-then-len-count-clause-found
returns-then-len-count-clause-found g c file h within =
    let n = c.in-Some.count in
    let found : Found file c.args.gate (c.args.gate + 9 + n) = rw c.in-Some.is at c.in_ok-count.ensures.found file h within in
    let payload = c.ask.new.reader.asked.items in
    let asked = c.in_ok-ask.ensures.asked file (c.in_ok-count.ensures.reads file h) in
    absurd (omega (arith, whole_payload file payload c.args.gate n found asked, c.if-len-count.true, c.len.ensures, c.ask.new.reader.asked.ok.0))

pub returns-in-Some-2-clause-found : goal.returns-in-Some-2-clause-found
returns-in-Some-2-clause-found g c file h within =
    let n = c.in-Some.count in
    let found : Found file c.args.gate (c.args.gate + 9 + n) = rw c.in-Some.is at c.in_ok-count.ensures.found file h within in
    let payload = c.ask.new.reader.asked.items in
    let asked = c.in_ok-ask.ensures.asked file (c.in_ok-count.ensures.reads file h) in
    let spelled = rw c.in-Some-2.is at c.in_ok-event.ensures.spelled in
    next_event file payload c.args.gate n found asked (event_of c.in-Some-2.event) (sym c.deref.ensures.value ∙ spelled.0)

pub returns-in-Some-2-clause-next : goal.returns-in-Some-2-clause-next
returns-in-Some-2-clause-next g c =
    let spelled = rw c.in-Some-2.is at c.in_ok-event.ensures.spelled in
    let long : length (payload_of (event_of c.in-Some-2.event)) ≡ c.in-Some.count =
    omega (arith, ap length (sym c.deref.ensures.value ∙ spelled.0), c.in_ok-ask.ensures.most, c.if-len-count.false, c.len.ensures, c.ask.new.reader.asked.ok.0) in
    (omega (arith, long), rw c.in-Some.is at c.in_ok-count.ensures.fits)

pub returns-in-Some-2-clause-event : goal.returns-in-Some-2-clause-event
returns-in-Some-2-clause-event g c = (rw c.in-Some-2.is at c.in_ok-event.ensures.spelled).1

pub returns-in-None-2-clause-found : goal.returns-in-None-2-clause-found
returns-in-None-2-clause-found g c file h within =
    let n = c.in-Some.count in
    let found : Found file c.args.gate (c.args.gate + 9 + n) = rw c.in-Some.is at c.in_ok-count.ensures.found file h within in
    let payload = c.ask.new.reader.asked.items in
    let asked = c.in_ok-ask.ensures.asked file (c.in_ok-count.ensures.reads file h) in
    let bad : event_in payload ≡ None = ap event_in (sym c.deref.ensures.value) ∙ c.in_ok-event.ensures.found ∙ ap (option_map event_of) c.in-None-2.is in
    next_none file payload c.args.gate n found asked (omega (arith, c.ask.new.reader.asked.ok.0, c.ask.new.reader.asked.small)) bad
