use Rattle.std.proofs.Common.{arith}
use Rattle.aw_law_nodes.specs.Couriers.{after_all}
use Rattle.aw_courier.specs.Carrying.{sessions_of}
use Rattle.aw_courier.proofs.MailLemmas.{still-roles, size-then}
use Rattle.aw_courier.proofs.RoundLemmas.{round-more, round-broken}
use Rattle.aw_courier.proofs.carrying.round.Goals as goal

pub returns-in-Err-clause-err : goal.returns-in-Err-clause-err
returns-in-Err-clause-err g c p co e s =
    let h = c.turns.invariant.made p co e s in
    round-broken p g.W.Wire.content g.W.Wire.faults g.W.Wire.failed_openings co c.turns.role c.args.wire.now c.turns.wire c.turn.new.wire
    c.turns.mails c.turns.moved c.in-Err.broken c.fault_at.result h
    (c.in-Err.ensures.err p (after_all co (sessions_of h.turns)) h.shows) c.fault_at.ensures

pub turns-preserved : goal.turns-preserved
turns-preserved g c = record {
  roles = still-roles c.args.roles c.turns.mails c.turn.new.mails c.turns.invariant.roles c.in-Ok.ensures.size;
  size = size-then c.args.mails.now c.turns.mails c.turn.new.mails c.turns.invariant.size c.in-Ok.ensures.size;
  made = λ p co e s.
      let h = c.turns.invariant.made p co e s in
      rw c.either-moved.ensures
      (round-more p g.W.Wire.content g.W.Wire.faults g.W.Wire.failed_openings co c.turns.role _ c.args.wire.now c.turns.wire c.turn.new.wire c.turns.mails c.turn.new.mails c.turns.moved c.in-Ok.some h
      (c.in-Ok.ensures.ok p (after_all co (sessions_of h.turns)) h.shows) (omega arith));
}
