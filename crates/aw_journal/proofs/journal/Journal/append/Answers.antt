use Rattle.std.specs.Prelude.{◌≡◌, ℕ, ◌^◌, ◌<◌, List, [], ◌∷◌, ◌++◌, length}
use Rattle.std.proofs.Common.{refl, sym, ◌∙◌, ap, subst, arith, inl, length-append}
use Rattle.aw_disk.specs.Disk.{LeavesOnly}
use Rattle.aw_journal.specs.Format.{front, record_of}
use Rattle.aw_journal.specs.Events.{Event, AllEvents, payload_of}
use Rattle.aw_journal.proofs.Bytes.{length-spelled, all_push}
use Rattle.aw_journal.specs.Journal.{Kept, kept, IsSettled, IsBeforeOrAfter, IsAround, StandsAt, behind_gate, end_after}
use Rattle.aw_journal.specs.EventView.{event_of, events_seen}
use Rattle.aw_journal.specs.Opens.{HasEvents}
use Rattle.aw_journal.specs.declared.payload.NodeEvent.{NodeEvent}
use Rattle.std.specs.Prelude.{Err}
use Rattle.aw_journal.specs.declared.journal.AppendFault.TheVariants.{Full}
use Rattle.aw_journal.proofs.Events.{events_push}
use Rattle.aw_journal.proofs.Moments.{started, weaker}
use Rattle.aw_journal.proofs.Appends.{same_Err, length-front_push, around, settled_events, stands, settled_after}
use Rattle.aw_journal.proofs.journal.Journal.append.Goals as goal

pub returns-in-Err-clause-any_moment : goal.returns-in-Err-clause-any_moment
returns-in-Err-clause-any_moment g c told =
    let old = c.args.disk.now in
    let j = kept c.self.inside in
    let settled : IsSettled g.D.Disk.seen g.D.Disk.may_leave old j = subst (IsSettled g.D.Disk.seen g.D.Disk.may_leave old) (sym c.self.view_is) (c.requires.settled told) in
    let fits : length (front j.role j.text (events_seen j.events)) < 2 ^ 64 = omega (arith, c.self.invariant.gate) in
    rw (← c.self.view_is) (started g.D.Disk.moment g.D.Disk.left_since old (IsBeforeOrAfter j (event_of c.args.event))
    (λ f left. inl (settled_events g.D.Disk.tells g.D.Disk.seen g.D.Disk.may_leave old j c.self.invariant.all fits settled f
    (g.met.D.Disk.only_now old f left))))

pub returns-in-Err-clause-full : goal.returns-in-Err-clause-full
returns-in-Err-clause-full g c is =
    let long = length-front_push c.self.inside.role c.self.inside.text (events_seen c.self.inside.events.items) (event_of c.args.event) in
    let full : c.self.inside.limit < end_after (kept c.self.inside) (event_of c.args.event) =
    omega (arith, long, c.self.invariant.gate, c.in-Err.ensures.full (same_Err c.in-Err.fault Full _ refl is)) in
    subst (λ (j : Kept). j.limit < end_after j (event_of c.args.event)) c.self.view_is full

pub returns-in-Err-clause-full_always : goal.returns-in-Err-clause-full_always
returns-in-Err-clause-full_always g c full =
    let long = length-front_push c.self.inside.role c.self.inside.text (events_seen c.self.inside.events.items) (event_of c.args.event) in
    let full_inside = subst (λ (j : Kept). j.limit < end_after j (event_of c.args.event)) (sym c.self.view_is) full in
    ap Err (c.in-Err.ensures.full_always (omega (arith, long, c.self.invariant.gate, full_inside)))

pub returns-in-Done-clause-full_always : goal.returns-in-Done-clause-full_always
returns-in-Done-clause-full_always g c full =
    let long = length-front_push c.self.inside.role c.self.inside.text (events_seen c.self.inside.events.items) (event_of c.args.event) in
    let full_inside = subst (λ (j : Kept). j.limit < end_after j (event_of c.args.event)) (sym c.self.view_is) full in
    absurd (omega (arith, long, c.self.invariant.gate, c.in-Ok.ensures.next.0, c.in-Ok.ensures.next.1, c.in-Ok.ensures.fits, full_inside))

pub returns-in-Failed-clause-full_always : goal.returns-in-Failed-clause-full_always
returns-in-Failed-clause-full_always g c full =
    let long = length-front_push c.self.inside.role c.self.inside.text (events_seen c.self.inside.events.items) (event_of c.args.event) in
    let full_inside = subst (λ (j : Kept). j.limit < end_after j (event_of c.args.event)) (sym c.self.view_is) full in
    absurd (omega (arith, long, c.self.invariant.gate, c.in-Ok.ensures.next.0, c.in-Ok.ensures.next.1, c.in-Ok.ensures.fits, full_inside))

pub returns-in-Done-clause-any_moment : goal.returns-in-Done-clause-any_moment
returns-in-Done-clause-any_moment g c told =
    let old = c.args.disk.now in
    let j = kept c.self.inside in
    let settled : IsSettled g.D.Disk.seen g.D.Disk.may_leave old j = subst (IsSettled g.D.Disk.seen g.D.Disk.may_leave old) (sym c.self.view_is) (c.requires.settled told) in
    let fits : length (front j.role j.text (events_seen j.events)) < 2 ^ 64 = omega (arith, c.self.invariant.gate) in
    let small : length (payload_of (event_of c.args.event)) < 2 ^ 64 = omega (arith, c.in-Ok.ensures.next.0, c.in-Ok.ensures.fits) in
    let bytes : c.in-Ok.record.bytes ≡ record_of (event_of c.args.event) ++ 0 ∷ [] = c.in-Ok.ensures.bytes in
    let standing = stands g.D.Disk.tells g.D.Disk.seen g.D.Disk.may_leave old j c.self.inside.gate told c.self.invariant.gate settled in
    let any = c.put_whole.ensures.any_moment (front j.role j.text (events_seen j.events)) settled.file.rest settled.file.gate standing in
    let any_bytes = subst (λ (b : List ℕ). LeavesOnly g.D.Disk.moment g.D.Disk.left_since old c.put_whole.new.disk
    (IsAround (front j.role j.text (events_seen j.events)) settled.file.gate (behind_gate b settled.file.rest))) bytes any in
    rw (← c.self.view_is) (weaker g.D.Disk.moment g.D.Disk.left_since old c.put_whole.new.disk (IsAround (front j.role j.text (events_seen j.events))
    settled.file.gate (behind_gate (record_of (event_of c.args.event) ++ 0 ∷ []) settled.file.rest)) (IsBeforeOrAfter j (event_of c.args.event)) any_bytes
    (λ f left. around j.role j.text (events_seen j.events) c.self.invariant.all fits f settled.file.rest (event_of c.args.event) settled.file.gate
    settled.file.shut (c.in-Ok.ensures.sized, c.requires.event) small left))

pub returns-in-Failed-clause-any_moment : goal.returns-in-Failed-clause-any_moment
returns-in-Failed-clause-any_moment g c told =
    let old = c.args.disk.now in
    let j = kept c.self.inside in
    let settled : IsSettled g.D.Disk.seen g.D.Disk.may_leave old j = subst (IsSettled g.D.Disk.seen g.D.Disk.may_leave old) (sym c.self.view_is) (c.requires.settled told) in
    let fits : length (front j.role j.text (events_seen j.events)) < 2 ^ 64 = omega (arith, c.self.invariant.gate) in
    let small : length (payload_of (event_of c.args.event)) < 2 ^ 64 = omega (arith, c.in-Ok.ensures.next.0, c.in-Ok.ensures.fits) in
    let bytes : c.in-Ok.record.bytes ≡ record_of (event_of c.args.event) ++ 0 ∷ [] = c.in-Ok.ensures.bytes in
    let standing = stands g.D.Disk.tells g.D.Disk.seen g.D.Disk.may_leave old j c.self.inside.gate told c.self.invariant.gate settled in
    let any = c.put_whole.ensures.any_moment (front j.role j.text (events_seen j.events)) settled.file.rest settled.file.gate standing in
    let any_bytes = subst (λ (b : List ℕ). LeavesOnly g.D.Disk.moment g.D.Disk.left_since old c.put_whole.new.disk
    (IsAround (front j.role j.text (events_seen j.events)) settled.file.gate (behind_gate b settled.file.rest))) bytes any in
    rw (← c.self.view_is) (weaker g.D.Disk.moment g.D.Disk.left_since old c.put_whole.new.disk (IsAround (front j.role j.text (events_seen j.events))
    settled.file.gate (behind_gate (record_of (event_of c.args.event) ++ 0 ∷ []) settled.file.rest)) (IsBeforeOrAfter j (event_of c.args.event)) any_bytes
    (λ f left. around j.role j.text (events_seen j.events) c.self.invariant.all fits f settled.file.rest (event_of c.args.event) settled.file.gate
    settled.file.shut (c.in-Ok.ensures.sized, c.requires.event) small left))

pub returns-in-Done-clause-settled : goal.returns-in-Done-clause-settled
returns-in-Done-clause-settled g c told =
    let old = c.args.disk.now in
    let j = kept c.self.inside in
    let settled : IsSettled g.D.Disk.seen g.D.Disk.may_leave old j = subst (IsSettled g.D.Disk.seen g.D.Disk.may_leave old) (sym c.self.view_is) (c.requires.settled told) in
    let fits : length (front j.role j.text (events_seen j.events)) < 2 ^ 64 = omega (arith, c.self.invariant.gate) in
    let small : length (payload_of (event_of c.args.event)) < 2 ^ 64 = omega (arith, c.in-Ok.ensures.next.0, c.in-Ok.ensures.fits) in
    let bytes : c.in-Ok.record.bytes ≡ record_of (event_of c.args.event) ++ 0 ∷ [] = c.in-Ok.ensures.bytes in
    let standing = stands g.D.Disk.tells g.D.Disk.seen g.D.Disk.may_leave old j c.self.inside.gate told c.self.invariant.gate settled in
    let after = c.in-Done.ensures.done refl (front j.role j.text (events_seen j.events)) settled.file.rest settled.file.gate standing in
    let after_bytes = subst (λ (b : List ℕ). StandsAt g.D.Disk.tells g.D.Disk.seen g.D.Disk.may_leave c.put_whole.new.disk c.self.inside.gate
    (front j.role j.text (events_seen j.events)) (behind_gate b settled.file.rest) 1) bytes after in
    let now = settled_after g.D.Disk.tells g.D.Disk.seen g.D.Disk.may_leave c.put_whole.new.disk j c.self.inside.gate c.args.event settled.file.rest after_bytes in
    let pushed : c.push.new.self.items ≡ c.self.inside.events.items ++ c.args.event ∷ [] =
    (rw c.unwrap.ensures at c.push.ensures.items) ∙ ap (λ (es : List NodeEvent). es ++ c.args.event ∷ []) c.make_ready-made.ensures.events in
    subst (λ (es : List NodeEvent). IsSettled g.D.Disk.seen g.D.Disk.may_leave c.put_whole.new.disk (record j { events = es })) (sym pushed) now

pub returns-in-Done-clause-durable : goal.returns-in-Done-clause-durable
returns-in-Done-clause-durable g c told =
    let old = c.args.disk.now in
    let j = kept c.self.inside in
    let settled : IsSettled g.D.Disk.seen g.D.Disk.may_leave old j = subst (IsSettled g.D.Disk.seen g.D.Disk.may_leave old) (sym c.self.view_is) (c.requires.settled told) in
    let fits : length (front j.role j.text (events_seen j.events)) < 2 ^ 64 = omega (arith, c.self.invariant.gate) in
    let small : length (payload_of (event_of c.args.event)) < 2 ^ 64 = omega (arith, c.in-Ok.ensures.next.0, c.in-Ok.ensures.fits) in
    let bytes : c.in-Ok.record.bytes ≡ record_of (event_of c.args.event) ++ 0 ∷ [] = c.in-Ok.ensures.bytes in
    let standing = stands g.D.Disk.tells g.D.Disk.seen g.D.Disk.may_leave old j c.self.inside.gate told c.self.invariant.gate settled in
    let after = c.in-Done.ensures.done refl (front j.role j.text (events_seen j.events)) settled.file.rest settled.file.gate standing in
    let after_bytes = subst (λ (b : List ℕ). StandsAt g.D.Disk.tells g.D.Disk.seen g.D.Disk.may_leave c.put_whole.new.disk c.self.inside.gate
    (front j.role j.text (events_seen j.events)) (behind_gate b settled.file.rest) 1) bytes after in
    let now = settled_after g.D.Disk.tells g.D.Disk.seen g.D.Disk.may_leave c.put_whole.new.disk j c.self.inside.gate c.args.event settled.file.rest after_bytes in
    let pushed : c.push.new.self.items ≡ c.self.inside.events.items ++ c.args.event ∷ [] =
    (rw c.unwrap.ensures at c.push.ensures.items) ∙ ap (λ (es : List NodeEvent). es ++ c.args.event ∷ []) c.make_ready-made.ensures.events in
    let event = c.args.event in
    let all = all_push (events_seen j.events) (event_of event) c.self.invariant.all (c.in-Ok.ensures.sized, c.requires.event) in
    let seen = events_push j.events event in
    let long = length-front_push j.role j.text (events_seen j.events) (event_of event) in
    let fits_now : length (front j.role j.text (events_seen (j.events ++ event ∷ []))) < 2 ^ 64 =
    omega (arith, long, c.in-Ok.ensures.next.0, c.in-Ok.ensures.fits, c.self.invariant.gate, ap (λ (es : List Event). length (front j.role j.text es)) seen) in
    subst (λ (es : List NodeEvent). (f : List ℕ) → g.D.Disk.may_leave c.put_whole.new.disk f → HasEvents j.role j.text (events_seen es) f) (sym pushed)
    (settled_events g.D.Disk.tells g.D.Disk.seen g.D.Disk.may_leave c.put_whole.new.disk (record j { events = j.events ++ event ∷ [] }) (subst AllEvents (sym seen) all) fits_now now)

pub invariant_of-self-in-Done : goal.invariant_of-self-in-Done
invariant_of-self-in-Done g c =
    let pushed : events_seen c.push.new.self.items ≡ events_seen c.self.inside.events.items ++ event_of c.args.event ∷ [] =
    ap events_seen ((rw c.unwrap.ensures at c.push.ensures.items) ∙ ap (λ (es : List NodeEvent). es ++ c.args.event ∷ [])
    c.make_ready-made.ensures.events) ∙ events_push c.self.inside.events.items c.args.event in
    let long = length-front_push c.self.inside.role c.self.inside.text (events_seen c.self.inside.events.items) (event_of c.args.event) in
    record {
      all = subst AllEvents (sym pushed) (all_push (events_seen c.self.inside.events.items) (event_of c.args.event) c.self.invariant.all
          (c.in-Ok.ensures.sized, c.requires.event));
      gate = omega (
        arith,
        long,
        c.in-Ok.ensures.next.0,
        c.in-Ok.ensures.fits,
        c.self.invariant.gate,
        ap (λ (es : List Event). length (front c.self.inside.role c.self.inside.text es)) pushed,
      );
    }

pub put_whole-requires-clause-fits : goal.put_whole-requires-clause-fits
put_whole-requires-clause-fits g c =
    let bytes : c.in-Ok.record.bytes ≡ record_of (event_of c.args.event) ++ 0 ∷ [] = c.in-Ok.ensures.bytes in
    omega (
      arith,
      ap length bytes,
      length-append (record_of (event_of c.args.event)) (0 ∷ []),
      length-spelled (event_of c.args.event),
      c.in-Ok.ensures.next.0,
      c.in-Ok.ensures.next.1,
      c.in-Ok.ensures.fits,
    )
