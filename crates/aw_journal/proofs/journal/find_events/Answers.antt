use Rattle.std.specs.Prelude.{◌≡◌, ◌+◌, ◌<◌, ◌∷◌, length}
use Rattle.std.proofs.Common.{ap, arith, length-append}
use Rattle.aw_journal.specs.EventView.{events_seen}
use Rattle.aw_journal.specs.Format.{head}
use Rattle.aw_journal.proofs.Appends.{length-front}
use Rattle.aw_journal.proofs.Bytes.{length-head}
use Rattle.aw_journal.proofs.Heads.{resumed}
use Rattle.aw_journal.proofs.journal.find_events.Goals as goal

pub returns-clause-place : goal.returns-clause-place
returns-clause-place g c role =
    omega (arith, length-front role c.args.text.now (events_seen c.in_ok-found.found.events.items), c.in_ok-found.ensures.place, c.len.ensures, ap length c.in_ok-text.ensures)

pub returns-clause-found : goal.returns-clause-found
returns-clause-found g c file h role has =
    let text = c.args.text.now in
    let from = 11 + c.len.result in
    let from_is : from ≡ 11 + length text = omega (arith, c.len.ensures, ap length c.in_ok-text.ensures) in
    let within : from < length file = omega (arith, from_is, ap length has.2, length-append (1 ∷ head role text) (has.0 ∷ has.1), length-head role text) in
    resumed role text file from c.in_ok-found.found.gate (events_seen c.in_ok-found.found.events.items) has from_is
    (omega (arith, c.in_ok-found.ensures.fits)) c.in_ok-found.ensures.all (c.in_ok-found.ensures.found file h within)

pub returns-clause-open : goal.returns-clause-open
returns-clause-open g c file h role has =
    let r = returns-clause-found g c file h role has in
    c.in_ok-is_open.ensures.open file (c.in_ok-found.ensures.reads file h) r.within
