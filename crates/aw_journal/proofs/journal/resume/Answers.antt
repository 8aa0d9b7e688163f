use Rattle.std.specs.Prelude.{◌≡◌, ℕ, ◌≤◌, ◌<◌, List, IsTrue, true, length, get_or, ◌==◌}
use Rattle.std.proofs.Common.{refl, sym, ◌∙◌, subst, arith}
use Rattle.aw_journal.specs.EventView.{events_seen}
use Rattle.aw_journal.specs.Openings.{Resumed}
use Rattle.aw_journal.specs.Opens.{HasThisHead}
use Rattle.aw_journal.proofs.Heads.{as_made}
use Rattle.aw_journal.proofs.Openings.{is_resumed, keeps_ended, settled_ended}
use Rattle.aw_journal.proofs.Quiets.{quiet_then}
use Rattle.aw_journal.proofs.journal.resume.Goals as goal

pub end_at-requires-clause-within : goal.end_at-requires-clause-within
end_at-requires-clause-within g c told_mid =
    let D = g.D.Disk in
    let L = g.met.D.Disk in
    let old = c.args.disk.now in
    let mid = c.find_events.new.disk in
    let role = c.args.role in
    let text = c.args.text.now in
    let file = D.seen old in
    let known = c.in_ok-kept.field-0 in
    let events = known.found.events.items in
    let first = c.in_ok-has_this_head.ensures in
    let next = c.in_ok-kept.ensures in
    let reads = λ (told : IsTrue (D.tells old)). first.reads file (c.requires.reads told) in
    let own : IsTrue (D.tells old) → HasThisHead role text file = λ told. (first.own file (c.requires.reads told)).0 c.if-not-branch.false in
    let r : IsTrue (D.tells old) → Resumed role text file known.found.gate (events_seen events) = λ told. next.found file (reads told) role (own told) in
    let gate_open : IsTrue (D.tells old) → known.is_open ≡ (get_or file known.found.gate 0 == 1) = λ told. next.open file (reads told) role (own told) in
    let quiet = quiet_then D.tells D.seen D.may_leave D.moment D.left_since L.counts_now L.only_now old c.has_this_head.new.disk mid first.only.quiet next.only.quiet in
    let later : D.faults old ≤ D.faults mid = omega (arith, first.only.kept, next.only.kept) in
    let told : IsTrue (D.tells old) = subst IsTrue quiet.told_same told_mid in
    subst (λ (l : List ℕ). known.found.gate < length l) (sym quiet.seen_same) (r told).within

pub returns-in-Done-clause-keeps : goal.returns-in-Done-clause-keeps
returns-in-Done-clause-keeps g c =
    let D = g.D.Disk in
    let L = g.met.D.Disk in
    let old = c.args.disk.now in
    let mid = c.find_events.new.disk in
    let role = c.args.role in
    let text = c.args.text.now in
    let file = D.seen old in
    let known = c.in_ok-kept.field-0 in
    let events = known.found.events.items in
    let first = c.in_ok-has_this_head.ensures in
    let next = c.in_ok-kept.ensures in
    let reads = λ (told : IsTrue (D.tells old)). first.reads file (c.requires.reads told) in
    let own : IsTrue (D.tells old) → HasThisHead role text file = λ told. (first.own file (c.requires.reads told)).0 c.if-not-branch.false in
    let r : IsTrue (D.tells old) → Resumed role text file known.found.gate (events_seen events) = λ told. next.found file (reads told) role (own told) in
    let gate_open : IsTrue (D.tells old) → known.is_open ≡ (get_or file known.found.gate 0 == 1) = λ told. next.open file (reads told) role (own told) in
    let quiet = quiet_then D.tells D.seen D.may_leave D.moment D.left_since L.counts_now L.only_now old c.has_this_head.new.disk mid first.only.quiet next.only.quiet in
    let later : D.faults old ≤ D.faults mid = omega (arith, first.only.kept, next.only.kept) in
    keeps_ended D L.reads_an_outcome L.counts_now L.only_now role text old mid quiet later c.requires.durable known.found.gate (events_seen events) known.is_open c.end_at.new.disk r gate_open
    c.end_at.ensures.any_moment c.end_at.ensures.tells c.end_at.ensures.never_falls

pub returns-in-Failed-clause-keeps : goal.returns-in-Failed-clause-keeps
returns-in-Failed-clause-keeps g c =
    let D = g.D.Disk in
    let L = g.met.D.Disk in
    let old = c.args.disk.now in
    let mid = c.find_events.new.disk in
    let role = c.args.role in
    let text = c.args.text.now in
    let file = D.seen old in
    let known = c.in_ok-kept.field-0 in
    let events = known.found.events.items in
    let first = c.in_ok-has_this_head.ensures in
    let next = c.in_ok-kept.ensures in
    let reads = λ (told : IsTrue (D.tells old)). first.reads file (c.requires.reads told) in
    let own : IsTrue (D.tells old) → HasThisHead role text file = λ told. (first.own file (c.requires.reads told)).0 c.if-not-branch.false in
    let r : IsTrue (D.tells old) → Resumed role text file known.found.gate (events_seen events) = λ told. next.found file (reads told) role (own told) in
    let gate_open : IsTrue (D.tells old) → known.is_open ≡ (get_or file known.found.gate 0 == 1) = λ told. next.open file (reads told) role (own told) in
    let quiet = quiet_then D.tells D.seen D.may_leave D.moment D.left_since L.counts_now L.only_now old c.has_this_head.new.disk mid first.only.quiet next.only.quiet in
    let later : D.faults old ≤ D.faults mid = omega (arith, first.only.kept, next.only.kept) in
    keeps_ended D L.reads_an_outcome L.counts_now L.only_now role text old mid quiet later c.requires.durable known.found.gate (events_seen events) known.is_open c.end_at.new.disk r gate_open
    c.end_at.ensures.any_moment c.end_at.ensures.tells c.end_at.ensures.never_falls

pub returns-in-Done-clause-opens : goal.returns-in-Done-clause-opens
returns-in-Done-clause-opens g c =
    let D = g.D.Disk in
    let L = g.met.D.Disk in
    let old = c.args.disk.now in
    let mid = c.find_events.new.disk in
    let role = c.args.role in
    let text = c.args.text.now in
    let file = D.seen old in
    let known = c.in_ok-kept.field-0 in
    let events = known.found.events.items in
    let first = c.in_ok-has_this_head.ensures in
    let next = c.in_ok-kept.ensures in
    let reads = λ (told : IsTrue (D.tells old)). first.reads file (c.requires.reads told) in
    let own : IsTrue (D.tells old) → HasThisHead role text file = λ told. (first.own file (c.requires.reads told)).0 c.if-not-branch.false in
    let r : IsTrue (D.tells old) → Resumed role text file known.found.gate (events_seen events) = λ told. next.found file (reads told) role (own told) in
    let gate_open : IsTrue (D.tells old) → known.is_open ≡ (get_or file known.found.gate 0 == 1) = λ told. next.open file (reads told) role (own told) in
    let quiet = quiet_then D.tells D.seen D.may_leave D.moment D.left_since L.counts_now L.only_now old c.has_this_head.new.disk mid first.only.quiet next.only.quiet in
    let later : D.faults old ≤ D.faults mid = omega (arith, first.only.kept, next.only.kept) in
    let made : c.made.result ≡ record { role = role; text = text; events = events; limit = c.args.limit; usable = true } =
    as_made c.made.result role c.args.limit text known.text events events c.made.ensures next.text refl in
    is_resumed D L.reads_an_outcome L.counts_now L.only_now role text c.args.limit old c.end_at.new.disk c.made.result known.found.gate events made c.requires.headed r
    (settled_ended D L.reads_an_outcome L.counts_now L.only_now role text old mid quiet later c.requires.durable known.found.gate c.args.limit events
    known.is_open c.end_at.new.disk r gate_open (c.in-Done.ensures.done refl))
    (c.in-Done.ensures.kept (λ e. cc) ∙ next.only.kept ∙ first.only.kept)
