use Rattle.std.proofs.Common.{◌++◌, ◌∷◌, [], ◌∙◌, arith}
use Rattle.std.proofs.lemmas.List.{length-append}
use Rattle.aw_journal.specs.EventView.{event_of}
use Rattle.aw_journal.specs.Records.{IsBehind}
use Rattle.aw_journal.proofs.Readings.{read_ok, read_then}
use Rattle.aw_book_read.proofs.Counted.{few_events}
use Rattle.aw_book_read.proofs.checking.count_events.Goals as goal

pub events-preserved-in-Some : goal.events-preserved-in-Some
events-preserved-in-Some g c =
    let inv = c.events.invariant in
    record {
      only = read_ok g.P.Pages _ _ _ _ (read_then g.P.Pages g.met.P.Pages.read_on _ _ _ _ _ inv.only c.in_ok-_event.ensures.only);
      behind = λ file told start.
          let was = inv.behind file told start in
          let e = event_of c.in-Some._event in
          let now = inv.only.same_bytes ∙ told in
          let found : IsBehind file (was.0 ++ e ∷ []) c.next.new.self = rw c.in-Some.is at c.in_ok-_event.ensures.next file was.0 now was.1 in
          let long = length-append was.0 (e ∷ []) in (
            was.0 ++ e ∷ [],
            found,
            omega (
              arith,
              was.2,
              long,
              c.saturating_add-count.ensures,
              few_events file (was.0 ++ e ∷ []) c.next.new.self found,
              found.place,
              (g.met.P.Pages.is_file _ file now).bounded,
            ),
          );
    }

pub events-preserved-in-Some-2 : goal.events-preserved-in-Some-2
events-preserved-in-Some-2 g c =
    let inv = c.events.invariant in
    record {
      only = read_ok g.P.Pages _ _ _ _ (read_then g.P.Pages g.met.P.Pages.read_on _ _ _ _ _ inv.only c.in_ok-_event.ensures.only);
      behind = λ file told start.
          let was = inv.behind file told start in
          let e = event_of c.in-Some._event in
          let now = inv.only.same_bytes ∙ told in
          let found : IsBehind file (was.0 ++ e ∷ []) c.next.new.self = rw c.in-Some.is at c.in_ok-_event.ensures.next file was.0 now was.1 in
          let long = length-append was.0 (e ∷ []) in (
            was.0 ++ e ∷ [],
            found,
            omega (
              arith,
              was.2,
              long,
              c.saturating_add-count.ensures,
              few_events file (was.0 ++ e ∷ []) c.next.new.self found,
              found.place,
              (g.met.P.Pages.is_file _ file now).bounded,
            ),
          );
    }

pub events-preserved : goal.events-preserved
events-preserved g c =
    let inv = c.events.invariant in
    record {
      only = read_ok g.P.Pages _ _ _ _ (read_then g.P.Pages g.met.P.Pages.read_on _ _ _ _ _ inv.only c.in_ok-_event.ensures.only);
      behind = λ file told start.
          let was = inv.behind file told start in
          let e = event_of c.in-Some._event in
          let now = inv.only.same_bytes ∙ told in
          let found : IsBehind file (was.0 ++ e ∷ []) c.next.new.self = rw c.in-Some.is at c.in_ok-_event.ensures.next file was.0 now was.1 in
          let long = length-append was.0 (e ∷ []) in (
            was.0 ++ e ∷ [],
            found,
            omega (
              arith,
              was.2,
              long,
              c.saturating_add-count.ensures,
              few_events file (was.0 ++ e ∷ []) c.next.new.self found,
              found.place,
              (g.met.P.Pages.is_file _ file now).bounded,
            ),
          );
    }
