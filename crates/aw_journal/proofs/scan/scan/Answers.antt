use Rattle.std.specs.Prelude.{◌≡◌, ◌++◌, ◌∷◌, [], List, drop, length}
use Rattle.std.proofs.Common.{◌∙◌, ap, sym, subst, arith, length-append}
use Rattle.aw_journal.specs.Format.{records, record_of}
use Rattle.aw_journal.specs.Events.{Event, AllEvents}
use Rattle.aw_journal.specs.EventView.{event_of, events_seen}
use Rattle.aw_journal.specs.Scan.{FoundEvent}
use Rattle.aw_journal.proofs.Appends.{records_push}
use Rattle.aw_journal.proofs.Events.{events_push}
use Rattle.aw_journal.proofs.Bytes.{all_push, length-spelled}
use Rattle.aw_journal.proofs.Found.{found_push}
use Rattle.aw_journal.proofs.Quiets.{quiet_then}
use Rattle.aw_journal.proofs.scan.scan.Goals as goal

pub loop-events-preserved : goal.loop-events-preserved
loop-events-preserved g c =
    let D = g.D.Disk in
    let L = g.met.D.Disk in
    let was = c.loop-events.invariant in
    let event = c.in-Some.event in
    let had = events_seen c.loop-events.events.items in
    let next = rw c.in-Some.is at c.in_ok-event.ensures.next in
    let good = rw c.in-Some.is at c.in_ok-event.ensures.event in
    let pushed : events_seen c.add.new.events.items ≡ had ++ event_of event ∷ [] = ap events_seen c.in_ok-add.ensures ∙ events_push c.loop-events.events.items event in
    record {
      room = c.next_event.ensures.room;
      place = omega (
        arith,
        was.place,
        next.0,
        ap (λ (es : List Event). length (records es)) pushed,
        ap length (records_push had (event_of event)),
        length-append (records had) (1 ∷ record_of (event_of event)),
        length-spelled (event_of event),
      );
      fits = omega (arith, next.1, was.room.small);
      all = subst AllEvents (sym pushed) (all_push had (event_of event) was.all good);
      quiet = quiet_then D.tells D.seen D.may_leave D.moment D.left_since L.counts_now L.only_now c.args.disk.now c.loop-events.disk c.next_event.new.disk was.quiet c.in_ok-event.ensures.only.quiet;
      unfailed = c.in_ok-event.ensures.only.kept ∙ was.unfailed;
      reads = λ file h. c.in_ok-event.ensures.reads file (was.reads file h);
      within = λ file h from.
          let found : FoundEvent file c.loop-events.gate c.in-Some.next (event_of event) = rw c.in-Some.is at c.in_ok-event.ensures.found file (was.reads file h) (was.within file h from) in
          found.within;
      parts = λ file h from.
          let found : FoundEvent file c.loop-events.gate c.in-Some.next (event_of event) = rw c.in-Some.is at c.in_ok-event.ensures.found file (was.reads file h) (was.within file h from) in
          found_push (drop c.args.from file) (drop c.loop-events.gate file) (drop c.in-Some.next file) had (event_of event) (was.parts file h from) found.parts
          ∙ ap (λ (es : List Event). records es ++ drop c.in-Some.next file) (sym pushed);
    }
