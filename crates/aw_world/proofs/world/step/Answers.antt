use Rattle.std.proofs.Common.{sym, subst}
use Rattle.aw_grammar.specs.GrammarOf.{grammar_of}
use Rattle.aw_law_sites.specs.Worlds as V
use Rattle.aw_world.specs.declared.moves.Reply.TheVariants as replies
use Rattle.aw_world.specs.MoveView.{move_of}
use Rattle.aw_world.specs.Seen.{Steps, world_of}
use Rattle.std.proofs.lemmas.Result.{IfOk-weaker}
use Rattle.aw_list.proofs.Fronts.{on_err_held as on_err}
use Rattle.aw_world.proofs.world.step.Goals as goal

pub returns-in_err-answer-in-Choose-clause-err : goal.returns-in_err-answer-in-Choose-clause-err
returns-in_err-answer-in-Choose-clause-err g c = on_err _ (c.in_err-answer-in-Choose.ensures.err c.args.marks.now.delivered.items)

pub returns-in_ok-answer-in-Choose-clause-steps : goal.returns-in_ok-answer-in-Choose-clause-steps
returns-in_ok-answer-in-Choose-clause-steps g c =
    let d = c.args.accepted.now.grammar in
    let flags = c.args.marks.now.delivered.items in
    let v = world_of g.W.Workspace d c.args.sites.now.items c.args.messages.now flags c.args.taken.now.items in
    subst (λ e. Steps g.W.Workspace d c.choose.new.sites.items c.choose.new.messages flags c.choose.new.taken.items
    (V.step (grammar_of d) v (move_of e)) (replies.Choice c.in_ok-answer-in-Choose.answer)) (sym c.in-Choose.is)
    (c.in_ok-answer-in-Choose.ensures.steps flags c.requires.marked)

pub returns-in-Deliver-clause-steps : goal.returns-in-Deliver-clause-steps
returns-in-Deliver-clause-steps g c =
    let d = c.args.accepted.now.grammar in
    let taken = c.args.taken.now.items in
    let v = world_of g.W.Workspace d c.args.sites.now.items c.args.messages.now c.args.marks.now.delivered.items taken in
    IfOk-weaker c.deliver.result _ _
    (λ r h. subst (λ e. Steps g.W.Workspace d c.deliver.new.sites.items c.deliver.new.messages c.deliver.new.marks.delivered.items taken
    (V.step (grammar_of d) v (move_of e)) r) (sym c.in-Deliver.is) (h taken)) c.deliver.ensures.steps
