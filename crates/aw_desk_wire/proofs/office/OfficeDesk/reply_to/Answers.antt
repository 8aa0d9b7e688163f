use Rattle.std.proofs.Common.{refl}
use Rattle.aw_grammar.specs.GrammarOf.{grammar_of}
use Rattle.aw_msg.specs.FrameView.{frame_of}
use Rattle.aw_msg.specs.ResponseView.{response_of}
use Rattle.aw_node.specs.TypedNodes.{rules_of}
use Rattle.aw_node.proofs.Replying.{bytes-of}
use Rattle.aw_site.specs.Seen.{IsShown}
use Rattle.aw_desk_wire.proofs.office.OfficeDesk.reply_to.Goals as goal

pub returns : goal.returns
returns c =
    bytes-of (rules_of c.args.self.now.site.space.accepted.now.grammar c.args.self.now.typed.now) (frame_of c.args.frame.now) (IsShown _ c.args.self.now.site) (IsShown _ c.handle.new.site)
    (response_of (grammar_of c.args.self.now.site.space.accepted.now.grammar) c.in_ok-answered.answered) c.reply_bytes-reply.result
    (rw (c.grammar.ensures.value, c.accepted-accepted.ensures) at c.reply_bytes-reply.ensures)
    (rw c.accepted-accepted.ensures at c.in_ok-answered.ensures.answer) c.in_ok-answered.ensures.grammar refl
