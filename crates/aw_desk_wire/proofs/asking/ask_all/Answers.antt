use Rattle.std.proofs.Common.{Bool, subst}
use Rattle.std.proofs.lemmas.Bool.{both_ways}
use Rattle.aw_msg.proofs.Extensions.{frame_shorter}
use Rattle.aw_desk_wire.specs.Asking.{AsksNext}
use Rattle.aw_desk_wire.proofs.AskLemmas.{stretch-none, stretch-one}
use Rattle.aw_desk_wire.proofs.asking.ask_all.Goals as goal

pub loop-replies-init : goal.loop-replies-init
loop-replies-init g c = record { sound = λ s. s; stretch = rw c.new-replies.ensures (stretch-none _ _ c.args.role c.args.desks.now.items c.args.reader.now) }

pub loop-replies-smaller : goal.loop-replies-smaller
loop-replies-smaller g c =
    let next = subst (λ (b : Bool). AsksNext g.D.Desk.answers c.args.role c.loop-replies.desks.items c.ask_next.new.desks.items c.loop-replies.reader
    c.ask_next.new.reader c.loop-replies.replies c.ask_next.new.replies b) c.if-branch.true c.in_ok-ask_next.ensures.ok in
    frame_shorter c.loop-replies.reader.bytes next.0 c.ask_next.new.reader.bytes next.1

pub loop-replies-preserved : goal.loop-replies-preserved
loop-replies-preserved g c =
    let next = subst (λ (b : Bool). AsksNext g.D.Desk.answers c.args.role c.loop-replies.desks.items c.ask_next.new.desks.items c.loop-replies.reader
    c.ask_next.new.reader c.loop-replies.replies c.ask_next.new.replies b) c.if-branch.true c.in_ok-ask_next.ensures.ok in
    record {
      sound = λ s e. absurd (both_ways c.ask_next.new.reader.failed next.2 e);
      stretch = stretch-one _ _ c.args.role c.args.desks.now.items c.loop-replies.desks.items c.ask_next.new.desks.items c.args.reader.now
          c.loop-replies.reader c.ask_next.new.reader c.loop-replies.replies
          c.ask_next.new.replies next.0 c.loop-replies.invariant.stretch next.1 next.3;
    }
