use Rattle.std.proofs.Common.{refl, ◌∙◌}
use Rattle.aw_grammar.specs.GrammarOf.{grammar_of}
use Rattle.aw_msg.specs.FrameView.{frame_of}
use Rattle.aw_msg.specs.ResponseView.{response_of}
use Rattle.aw_node.specs.TypedNodes.{rules_of}
use Rattle.aw_node.proofs.Replying.{ok-any, err-anyhow, bytes-of}
use Rattle.aw_node.proofs.node.NodeHandles.reply_to.Goals as goal

pub returns-clause-ready : goal.returns-clause-ready
returns-clause-ready g c = ok-any c.reply_bytes-reply.result (c.in_ok-answered.ensures.grammar ∙ c.requires.ready.0, c.requires.ready.1)

pub returns-clause-ok : goal.returns-clause-ok
returns-clause-ok g c =
    bytes-of (rules_of c.args.self.now.accepted.now.grammar c.args.self.now.typed.now) (frame_of c.args.frame.now)
    (g.P.NodeWorkspace.shows c.args.self.now.site) (g.P.NodeWorkspace.shows c.handle.new.site)
    (response_of (grammar_of c.args.self.now.accepted.now.grammar) c.in_ok-answered.answered) c.reply_bytes-reply.result
    (rw c.grammar.ensures.value at c.reply_bytes-reply.ensures) c.in_ok-answered.ensures.answer refl refl

pub returns-clause-err : goal.returns-clause-err
returns-clause-err g c = err-anyhow c.reply_bytes-reply.result
