use Rattle.aw_grammar.specs.GrammarOf.{grammar_of}
use Rattle.aw_msg.specs.FrameView.{frame_of}
use Rattle.aw_msg.specs.ResponseView.{response_of}
use Rattle.aw_node.specs.TypedNodes.{rules_of}
use Rattle.aw_kept_node.proofs.Kept.{answers-as, all-fail-as}
use Rattle.aw_kept_node.proofs.answering.answer.Goals as goal

pub returns-clause-ok : goal.returns-clause-ok
returns-clause-ok g c =
    let p = grammar_of c.args.accepted.now.grammar in
    let told = c.keep_and_tell-reply in
    answers-as g.D.Disk (rules_of c.args.accepted.now.grammar c.args.typed.now) (frame_of c.args.frame.now) (g.P.NodeWorkspace.shows c.args.site.now) (g.P.NodeWorkspace.shows c.handle.new.site)
    (response_of p c.in_ok-answered.answered) c.args.journal.now told.new.journal c.args.disk.now told.new.disk told.result c.in_ok-answered.ensures.answer told.ensures.bytes (told.ensures.ok p)

pub returns-clause-err : goal.returns-clause-err
returns-clause-err g c =
    let p = grammar_of c.args.accepted.now.grammar in
    let told = c.keep_and_tell-reply in
    all-fail-as g.D.Disk (rules_of c.args.accepted.now.grammar c.args.typed.now) (frame_of c.args.frame.now) (g.P.NodeWorkspace.shows c.args.site.now) (g.P.NodeWorkspace.shows c.handle.new.site)
    (response_of p c.in_ok-answered.answered) c.args.journal.now c.args.disk.now told.new.disk told.result c.in_ok-answered.ensures.answer (told.ensures.err p)
