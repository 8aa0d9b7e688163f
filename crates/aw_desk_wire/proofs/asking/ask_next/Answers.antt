use Rattle.std.proofs.Common.{sym, ap, ◌∙◌, inr}
use Rattle.aw_list.proofs.Fronts.{on_err_held}
use Rattle.aw_msg.specs.FrameView.{frame_of}
use Rattle.aw_msg.specs.NextView.{answer_of}
use Rattle.aw_msg.proofs.PieceLemmas.{was_ready}
use Rattle.aw_desk_wire.proofs.asking.ask_next.Goals as goal

pub returns-in_ok-ask-in-Frame-clause-ok : goal.returns-in_ok-ask-in-Frame-clause-ok
returns-in_ok-ask-in-Frame-clause-ok g c =
    let f = c.in-Frame.frame in
    let r = was_ready c.args.reader.now (frame_of f) c.next.new.self (sym (ap answer_of c.in-Frame.is) ∙ c.in_ok-frame.ensures.answer) c.in_ok-frame.ensures.left in
    (frame_of f, r.0, r.1, c.in_ok-ask-in-Frame.ensures.ok)

pub returns-in_err-ask-in-Frame-clause-err : goal.returns-in_err-ask-in-Frame-clause-err
returns-in_err-ask-in-Frame-clause-err g c =
    let f = c.in-Frame.frame in
    let r = was_ready c.args.reader.now (frame_of f) c.next.new.self (sym (ap answer_of c.in-Frame.is) ∙ c.in_ok-frame.ensures.answer) c.in_ok-frame.ensures.left in
    on_err_held c.from_residual-in_err-ask-in-Frame.result (inr (frame_of f, c.next.new.self.bytes, r.0, c.in_err-ask-in-Frame.ensures.err))
