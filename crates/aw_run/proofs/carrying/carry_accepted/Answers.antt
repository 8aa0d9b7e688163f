use Rattle.std.proofs.Common.{inl, rules}
use Rattle.aw_courier.specs.declared.carrying.CarryFault.TheVariants as fault
use Rattle.aw_kept_node.proofs.CutOffs.{err-passed}
use Rattle.aw_run.specs.declared.reply.Stop.TheVariants as stop
use Rattle.aw_run.proofs.CarriedOutputs.{breaks-off, broken-kept, carried-kept, carried-told, carry-rose, line-lost, name-lost, unheard-told}
use Rattle.aw_run.proofs.carrying.carry_accepted.Goals as goal

pub returns-in_ok-line-in-Ok-clause-reply : goal.returns-in_ok-line-in-Ok-clause-reply
returns-in_ok-line-in-Ok-clause-reply g c = λ s same.
    carried-told g.W.Wire c.args.wire.now c.carry.new.wire s c.args.accepted.now.grammar c.args.rounds c.in-Ok.carried _ _ same
    c.in-Ok.ensures.ok (rw c.in-Ok.is at c.carry.ensures.world) c.carried_line.ensures c.in_ok-line-in-Ok.ensures

pub returns-in_err-line-in-Ok-clause-stopped : goal.returns-in_err-line-in-Ok-clause-stopped
returns-in_err-line-in-Ok-clause-stopped g c =
    err-passed _ c.from_residual.result stop.NoMemory (search rules)
    (λ s same. line-lost g.W.Wire c.args.wire.now c.carry.new.wire s c.args.accepted.now.grammar c.args.rounds c.in-Ok.carried same c.in-Ok.ensures.ok (rw c.in-Ok.is at c.carry.ensures.world))

pub returns-in_ok-bad_reply-in-Err-BadReply-clause-reply : goal.returns-in_ok-bad_reply-in-Err-BadReply-clause-reply
returns-in_ok-bad_reply-in-Err-BadReply-clause-reply g c = λ s same.
    unheard-told g.W.Wire c.args.wire.now c.carry.new.wire s c.args.accepted.now.grammar c.args.rounds c.in-Err-BadReply.role _ same
    (rw c.in-Err-BadReply.field-0-is at c.in-Err-BadReply.ensures.err) (rw c.grammar.ensures.value at c.in_ok-bad_reply-in-Err-BadReply.ensures)

pub returns-in_err-bad_reply-in-Err-BadReply-clause-stopped : goal.returns-in_err-bad_reply-in-Err-BadReply-clause-stopped
returns-in_err-bad_reply-in-Err-BadReply-clause-stopped g c =
    err-passed _ c.from_residual-in_err-bad_reply-in-Err-BadReply.result stop.NoMemory (search rules)
    (λ s same. name-lost g.W.Wire c.args.wire.now c.carry.new.wire s c.args.accepted.now.grammar c.args.rounds c.in-Err-BadReply.role same
    (rw c.in-Err-BadReply.field-0-is at c.in-Err-BadReply.ensures.err))

pub returns-in-Err-NetFault-clause-stopped : goal.returns-in-Err-NetFault-clause-stopped
returns-in-Err-NetFault-clause-stopped g c = λ s same. (
  c.in-Err-NetFault.field-0-0,
  breaks-off g.W.Wire c.args.wire.now c.carry.new.wire s c.args.accepted.now.grammar c.args.rounds _ same
      (rw c.in-Err-NetFault.field-0-is at c.in-Err-NetFault.ensures.err),
)

pub returns-in-Err-NetFault-clause-net_cause : goal.returns-in-Err-NetFault-clause-net_cause
returns-in-Err-NetFault-clause-net_cause g c = λ is.
    carry-rose g.W.Wire c.args.wire.now c.carry.new.wire _ c.args.rounds c.in-Err-NetFault.field-0-0 (rw c.in-Err-NetFault.field-0-is at c.in-Err-NetFault.ensures.err)

pub returns-in-Err-NoMemory-clause-stopped : goal.returns-in-Err-NoMemory-clause-stopped
returns-in-Err-NoMemory-clause-stopped g c = λ s same.
    inl (breaks-off g.W.Wire c.args.wire.now c.carry.new.wire s c.args.accepted.now.grammar c.args.rounds _ same
    (rw c.in-Err-NoMemory.field-0-is at c.in-Err-NoMemory.ensures.err))

pub returns-in_ok-line-in-Ok-clause-net_kept : goal.returns-in_ok-line-in-Ok-clause-net_kept
returns-in_ok-line-in-Ok-clause-net_kept g c = λ other. carried-kept g.W.Wire c.args.wire.now c.carry.new.wire _ c.args.rounds c.in-Ok.carried c.in-Ok.ensures.ok

pub returns-in_err-line-in-Ok-clause-net_kept : goal.returns-in_err-line-in-Ok-clause-net_kept
returns-in_err-line-in-Ok-clause-net_kept g c = λ other. carried-kept g.W.Wire c.args.wire.now c.carry.new.wire _ c.args.rounds c.in-Ok.carried c.in-Ok.ensures.ok

pub returns-in_ok-bad_reply-in-Err-BadReply-clause-net_kept : goal.returns-in_ok-bad_reply-in-Err-BadReply-clause-net_kept
returns-in_ok-bad_reply-in-Err-BadReply-clause-net_kept g c = λ other.
    broken-kept g.W.Wire c.args.wire.now c.carry.new.wire _ c.args.rounds (fault.BadReply c.in-Err-BadReply.role) (λ role is. cc is)
    (rw c.in-Err-BadReply.field-0-is at c.in-Err-BadReply.ensures.err)

pub returns-in_err-bad_reply-in-Err-BadReply-clause-net_kept : goal.returns-in_err-bad_reply-in-Err-BadReply-clause-net_kept
returns-in_err-bad_reply-in-Err-BadReply-clause-net_kept g c = λ other.
    broken-kept g.W.Wire c.args.wire.now c.carry.new.wire _ c.args.rounds (fault.BadReply c.in-Err-BadReply.role) (λ role is. cc is)
    (rw c.in-Err-BadReply.field-0-is at c.in-Err-BadReply.ensures.err)

pub returns-in-Err-NoMemory-clause-net_kept : goal.returns-in-Err-NoMemory-clause-net_kept
returns-in-Err-NoMemory-clause-net_kept g c = λ other.
    broken-kept g.W.Wire c.args.wire.now c.carry.new.wire _ c.args.rounds fault.NoMemory (λ role is. cc is) (rw c.in-Err-NoMemory.field-0-is at c.in-Err-NoMemory.ensures.err)
