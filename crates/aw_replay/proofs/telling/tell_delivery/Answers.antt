use Rattle.std.proofs.Common.{◌++◌, length, map, ap, sym, ◌∙◌}
use Rattle.std.proofs.lemmas.Result.{on_ok_weaker}
use Rattle.std.proofs.lemmas.List.{length-map}
use Rattle.aw_accept.specs.declared.accepted.Accepted.{Accepted}
use Rattle.aw_grammar.specs.GrammarOf.{grammar_of}
use Rattle.aw_law_sites.specs.Worlds as V
use Rattle.aw_msg.specs.MessageView.{message_of}
use Rattle.aw_world.specs.MoveView.{reply_of}
use Rattle.aw_replay.proofs.LineParts.{told_delivery}
use Rattle.aw_replay.proofs.telling.tell_delivery.Goals as goal

pub returns-clause-text : goal.returns-clause-text
returns-clause-text g c = on_ok_weaker c.push_delivery.result (λ e v S.
    let w = c.args.world.now in
    let T = c.in_ok-reply.ensures.steps v S in
    e ∙ ap (λ t. c.args.text.now ++ t) (told_delivery c.args.names.now.grammar.now c.step.new.self.accepted.now.grammar w.accepted.now.grammar
    (c.requires.named ∙ sym (ap (λ (a : Accepted). a.grammar) c.step.ensures.accepted)) (ap (λ (a : Accepted). a.grammar) c.step.ensures.accepted)
    c.args.number (reply_of c.in_ok-reply.reply) v (V.deliver (grammar_of w.accepted.now.grammar) v c.args.number) (length c.messages-before.result.now) _ T.reply
    (sym (ap (λ (u : V.World). u.messages) T.world) ∙ ap (λ ms. map (message_of (grammar_of c.step.new.self.accepted.now.grammar)) ms) (sym c.messages.ensures))
    (ap (λ (u : V.World). length u.messages) (sym S) ∙ length-map w.messages (message_of (grammar_of w.accepted.now.grammar))
    ∙ ap length (sym c.messages-before.ensures)))) c.push_delivery.ensures.text
