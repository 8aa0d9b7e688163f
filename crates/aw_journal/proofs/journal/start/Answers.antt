use Rattle.std.specs.Prelude.{◌≡◌, ◌≤◌, ◌^◌, ◌<◌, ℕ, List, [], IsTrue, true, false, length}
use Rattle.std.proofs.Common.{refl, sym, ◌∙◌, ap, subst, arith}
use Rattle.aw_journal.specs.Format.{end_of_head, front, has_head, records}
use Rattle.aw_journal.specs.Events.{Event}
use Rattle.aw_journal.specs.Journal.{StandsAt, behind_gate}
use Rattle.aw_journal.specs.EventView.{events_seen}
use Rattle.aw_journal.specs.Opens.{HasEvents, IsSameJournal}
use Rattle.aw_journal.proofs.Appends.{length-front}
use Rattle.aw_journal.proofs.Bytes.{headless}
use Rattle.aw_journal.proofs.Heads.{as_made, settled_head}
use Rattle.aw_journal.proofs.Moments.{weaker}
use Rattle.aw_journal.proofs.Openings.{is_started, keeps, same_journal}
use Rattle.aw_journal.proofs.Reading.{headed_by_two}
use Rattle.aw_journal.proofs.journal.start.Goals as goal

pub made-requires-clause-gate : goal.made-requires-clause-gate
made-requires-clause-gate g c =
    omega (
      arith,
      length-front c.args.role c.in_ok-kept.field-0.text (events_seen c.new.result.items),
      ap (λ (es : List Event). length (records es))
          (ap events_seen c.new.ensures.items),
      ap length c.in_ok-kept.ensures.text,
    )

pub returns-in-Done-clause-keeps : goal.returns-in-Done-clause-keeps
returns-in-Done-clause-keeps g c =
    let D = g.D.Disk in
    let L = g.met.D.Disk in
    let old = c.args.disk.now in
    let new = c.put_head.new.disk in
    let role = c.args.role in
    let text = c.args.text.now in
    let file = D.seen old in
    let none : IsTrue (D.tells old) → has_head file ≡ false = λ told. sym (headed_by_two file) ∙ ap has_head (sym (c.requires.read told)) ∙ c.requires.headless in
    let place : end_of_head (length text) ≤ c.args.limit = c.in_ok-kept.ensures.place in
    let fits : length (front role text []) < 2 ^ 64 = omega (arith, length-front role text [], place) in
    keeps D L.reads_an_outcome L.counts_now L.only_now role text old new
    (λ told. weaker D.moment D.left_since old new (HasEvents role text []) (IsSameJournal role text file) (c.put_head.ensures.any_moment told role text fits c.in_ok-kept.ensures.bytes)
    (λ f has. same_journal role text file f [] (sym (headless file (none told))) has))
    c.put_head.ensures.tells c.put_head.ensures.never_falls

pub returns-in-Failed-clause-keeps : goal.returns-in-Failed-clause-keeps
returns-in-Failed-clause-keeps g c =
    let D = g.D.Disk in
    let L = g.met.D.Disk in
    let old = c.args.disk.now in
    let new = c.put_head.new.disk in
    let role = c.args.role in
    let text = c.args.text.now in
    let file = D.seen old in
    let none : IsTrue (D.tells old) → has_head file ≡ false = λ told. sym (headed_by_two file) ∙ ap has_head (sym (c.requires.read told)) ∙ c.requires.headless in
    let place : end_of_head (length text) ≤ c.args.limit = c.in_ok-kept.ensures.place in
    let fits : length (front role text []) < 2 ^ 64 = omega (arith, length-front role text [], place) in
    keeps D L.reads_an_outcome L.counts_now L.only_now role text old new
    (λ told. weaker D.moment D.left_since old new (HasEvents role text []) (IsSameJournal role text file) (c.put_head.ensures.any_moment told role text fits c.in_ok-kept.ensures.bytes)
    (λ f has. same_journal role text file f [] (sym (headless file (none told))) has))
    c.put_head.ensures.tells c.put_head.ensures.never_falls

pub returns-in-Done-clause-opens : goal.returns-in-Done-clause-opens
returns-in-Done-clause-opens g c =
    let D = g.D.Disk in
    let L = g.met.D.Disk in
    let old = c.args.disk.now in
    let new = c.put_head.new.disk in
    let role = c.args.role in
    let text = c.args.text.now in
    let limit = c.args.limit in
    let file = D.seen old in
    let none : IsTrue (D.tells old) → has_head file ≡ false = λ told. sym (headed_by_two file) ∙ ap has_head (sym (c.requires.read told)) ∙ c.requires.headless in
    let made : c.made.result ≡ record { role = role; text = text; events = []; limit = limit; usable = true } = as_made c.made.result role limit text
    c.in_ok-kept.field-0.text [] c.new.result.items c.made.ensures c.in_ok-kept.ensures.text c.new.ensures.items in
    is_started D L.reads_an_outcome L.counts_now L.only_now role text limit old new c.made.result made none c.in_ok-kept.ensures.place
    (λ told.
    let stands = c.in-Done.ensures.done refl told in
    settled_head D.tells D.seen D.may_leave new role limit text stands.0
    (subst (λ (b : List ℕ). StandsAt D.tells D.seen D.may_leave new 0 [] (behind_gate b stands.0) 1) c.in_ok-kept.ensures.bytes stands.1))
    (c.in-Done.ensures.kept (λ e. cc))
