use Rattle.std.proofs.Common.{◌<◌, ◌≤◌, length, Some, ap, sym, ◌∙◌, arith}
use Rattle.std.proofs.lemmas.Option.{slice_get-get_or}
use Rattle.aw_msg.specs.FrameView.{frame_of}
use Rattle.aw_desk_wire.proofs.AskLemmas.{asks-desk, asks-nobody, got-none}
use Rattle.aw_desk_wire.proofs.asking.ask.Goals as goal

pub returns-in_ok-push_bytes-clause-ok : goal.returns-in_ok-push_bytes-clause-ok
returns-in_ok-push_bytes-clause-ok g c =
    let within : c.args.role < length c.args.desks.now.items = omega (arith, c.if-role-len.true, c.len.ensures) in
    asks-desk _ _ c.args.role c.args.desks.now.items c.index_mut.result.now c.reply_to.new.self (frame_of c.args.frame.now) c.in_ok-reply.reply c.args.replies.now c.push_bytes.new.self
    (slice_get-get_or c.args.desks.now.items c.args.role c.index_mut.result.now within ∙ ap Some (sym c.index_mut.ensures.value))
    c.in_ok-reply.ensures (rw c.as_slice.ensures at c.in_ok-push_bytes.ensures.ok)

pub returns-else-role-len-clause-ok : goal.returns-else-role-len-clause-ok
returns-else-role-len-clause-ok g c =
    let past : length c.args.desks.now.items ≤ c.args.role = omega (arith, c.if-role-len.false, c.len.ensures) in
    asks-nobody _ _ c.args.role c.args.desks.now.items (frame_of c.args.frame.now) c.args.replies.now (got-none c.args.desks.now.items c.args.role past)
