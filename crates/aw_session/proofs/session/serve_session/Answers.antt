use Rattle.std.proofs.Common.{None, Some, arith}
use Rattle.aw_session.proofs.Goings.{going-none, going-room, goes-on-at}
use Rattle.aw_session.proofs.TalkLemmas.{talks-none}
use Rattle.aw_session.proofs.session.serve_session.Goals as goal

pub loop-session-init : goal.loop-session-init
loop-session-init g c = record { ready = c.requires.ready; going = rw c.new-session.ensures (going-none _ _ c.args.node.now c.args.wire.now (talks-none _ _ _ _ c.args.wire.now c.requires.«open»)) }

pub next_piece-requires-clause-room : goal.next_piece-requires-clause-room
next_piece-requires-clause-room g c = going-room _ _ _ _ _ _ _ _ _ c.loop-session.invariant.going

pub loop-session-smaller : goal.loop-session-smaller
loop-session-smaller g c =
    let going = goes-on-at _ _ _ _ _ _ _ _ _ _ _ None c.in-None.is (c.in_ok-next_piece.ensures.ok _ _ c.loop-session.invariant.going) in
    let more = c.in_ok-next_piece.ensures.more c.in-None.is in
    omega (arith, going.within, more)

pub returns-in-Some-clause-ok : goal.returns-in-Some-clause-ok
returns-in-Some-clause-ok g c = goes-on-at _ _ _ _ _ _ _ _ _ _ _ (Some c.in-Some.how) c.in-Some.is (c.in_ok-next_piece.ensures.ok _ _ c.loop-session.invariant.going)
