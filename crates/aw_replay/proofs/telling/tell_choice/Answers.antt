use Rattle.std.proofs.Common.{◌++◌, length, map, ap, sym, subst, ◌∙◌, inr}
use Rattle.std.proofs.lemmas.Result.{on_ok_weaker}
use Rattle.std.proofs.lemmas.List.{length-map}
use Rattle.aw_list.proofs.Fronts.{on_err_held as on_err}
use Rattle.aw_accept.specs.declared.accepted.Accepted.{Accepted}
use Rattle.aw_grammar.specs.GrammarOf.{grammar_of, words_of}
use Rattle.aw_choice.specs.ChoiceView.{choice_of}
use Rattle.aw_law_sites.specs.Worlds as V
use Rattle.aw_law_sites.specs.Transcripts.{move_lines}
use Rattle.aw_msg.specs.MessageView.{message_of}
use Rattle.aw_world.specs.MoveView.{reply_of}
use Rattle.aw_world.specs.Shown.{Shows}
use Rattle.aw_replay.proofs.LineParts.{told_choice}
use Rattle.aw_replay.proofs.telling.tell_choice.Goals as goal

pub returns-clause-text : goal.returns-clause-text
returns-clause-text g c = on_ok_weaker c.push_chosen.result (λ e v S.
    let w = c.args.world.now in
    let T = c.in_ok-reply.ensures.steps v S in
    e ∙ ap (λ t. c.args.text.now ++ t) (told_choice c.args.names.now.grammar.now c.step.new.self.accepted.now.grammar w.accepted.now.grammar
    (c.requires.named ∙ sym (ap (λ (a : Accepted). a.grammar) c.step.ensures.accepted)) (ap (λ (a : Accepted). a.grammar) c.step.ensures.accepted)
    (choice_of c.get.result.now) (reply_of c.in_ok-reply.reply) v (V.step (grammar_of w.accepted.now.grammar) v
    (V.Chooses (choice_of c.in_ok-copy.copy))) (length c.messages-before.result.now) _ T.reply
    (sym (ap (λ (u : V.World). u.messages) T.world) ∙ ap (λ ms. map (message_of (grammar_of c.step.new.self.accepted.now.grammar)) ms) (sym c.messages.ensures))
    (ap (λ (u : V.World). length u.messages) (sym S) ∙ length-map w.messages (message_of (grammar_of w.accepted.now.grammar)) ∙ ap length (sym c.messages-before.ensures))
    ∙ ap (λ z. move_lines (words_of w.accepted.now.grammar) v (V.Chooses (choice_of c.get.result.now)) (V.step (grammar_of w.accepted.now.grammar) v
    (V.Chooses (choice_of z)))) c.in_ok-copy.ensures.cases
    ∙ ap (λ z. move_lines (words_of w.accepted.now.grammar) v (V.Chooses (choice_of z)) (V.step (grammar_of w.accepted.now.grammar) v
    (V.Chooses (choice_of c.args.choice.now)))) c.get.ensures)) c.push_chosen.ensures.text

pub returns-clause-stepped : goal.returns-clause-stepped
returns-clause-stepped g c = on_ok_weaker c.push_chosen.result (λ e v S.
    let w = c.args.world.now in
    subst (λ z. Shows g.W.Workspace c.step.new.self (V.step (grammar_of w.accepted.now.grammar) v (V.Chooses (choice_of z))).world) c.in_ok-copy.ensures.cases
    (c.in_ok-reply.ensures.steps v S).world) c.push_chosen.ensures.text

pub returns-clause-some : goal.returns-clause-some
returns-clause-some g c = on_err c.push_chosen.result (λ v S.
    let w = c.args.world.now in
    inr (subst (λ z. Shows g.W.Workspace c.step.new.self (V.step (grammar_of w.accepted.now.grammar) v (V.Chooses (choice_of z))).world) c.in_ok-copy.ensures.cases
    (c.in_ok-reply.ensures.steps v S).world))
