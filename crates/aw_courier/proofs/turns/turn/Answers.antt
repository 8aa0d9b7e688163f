use Rattle.aw_session.proofs.Refusals.{err-passed}
use Rattle.aw_courier.proofs.AskLemmas.{ok-map, err-map}
use Rattle.aw_courier.proofs.MailLemmas.{still-holds}
use Rattle.aw_courier.proofs.RoundLemmas.{turn-made, turn-stopped}
use Rattle.aw_courier.proofs.turns.turn.Goals as goal

pub push_all-requires-clause-role : goal.push_all-requires-clause-role
push_all-requires-clause-role g c = rw c.from-at.ensures c.requires.role

pub pull_all-requires-clause-role : goal.pull_all-requires-clause-role
pull_all-requires-clause-role g c = rw c.from-at.ensures (still-holds c.args.role c.args.mails.now c.push_all.new.mails c.requires.role c.in_ok-pushes.ensures.size)

pub pull_all-requires-clause-open : goal.pull_all-requires-clause-open
pull_all-requires-clause-open g c = c.in_ok-pushes.ensures.stays

pub returns-in_err-pushes-clause-err : goal.returns-in_err-pushes-clause-err
returns-in_err-pushes-clause-err g c p co s =
    err-passed _ _ _ c.from_residual.ensures.1
    (turn-stopped p g.W.Wire.content g.W.Wire.is_open g.W.Wire.faults g.W.Wire.failed_openings co c.args.role c.args.wire.now c.dial.new.self c.push_all.new.wire _
    c.in-Opened.ensures.content (c.in-Opened.ensures.kept (λ e. absurd (cc e))) (rw c.from-at.ensures at (c.in_err-pushes.ensures.err p co s)))

pub returns-clause-ok : goal.returns-clause-ok
returns-clause-ok g c p co s =
    ok-map c.pull_all.result _ _ (λ moved h. turn-made p g.W.Wire.content g.W.Wire.is_open g.W.Wire.faults g.W.Wire.failed_openings co c.args.role
    c.args.wire.now c.dial.new.self c.pull_all.new.wire c.pull_all.new.mails moved
    c.in-Opened.ensures.content (c.in-Opened.ensures.kept (λ e. absurd (cc e))) (c.in-Opened.ensures.openings_kept (λ e. absurd (cc e))) h)
    (rw c.from-at.ensures at (c.pull_all.ensures.ok p co c.dial.new.self (c.in_ok-pushes.ensures.ok p co s)))

pub returns-clause-err : goal.returns-clause-err
returns-clause-err g c p co s =
    err-map c.pull_all.result _ _ (λ fault h. turn-stopped p g.W.Wire.content g.W.Wire.is_open g.W.Wire.faults g.W.Wire.failed_openings co c.args.role
    c.args.wire.now c.dial.new.self c.pull_all.new.wire fault
    c.in-Opened.ensures.content (c.in-Opened.ensures.kept (λ e. absurd (cc e))) h)
    (rw c.from-at.ensures at (c.pull_all.ensures.err p co c.dial.new.self (c.in_ok-pushes.ensures.ok p co s)))
