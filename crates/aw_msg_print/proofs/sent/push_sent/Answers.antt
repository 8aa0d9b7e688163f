use Rattle.std.proofs.Common.{◌≡◌, ◌+◌, ◌++◌, Some, length, map, drop, ap, sym, ◌∙◌, refl, append_assoc}
use Rattle.std.specs.Prelude.{slice_get, option_map}
use Rattle.std.proofs.lemmas.Option.{slice_get-map, slice_get_read}
use Rattle.aw_grammar.specs.GrammarOf.{grammar_of, words_of}
use Rattle.aw_msg.specs.MessageView.{message_of}
use Rattle.aw_law_sites.specs.Transcripts.{sent_line, sent_lines}
use Rattle.aw_msg_print.proofs.SentLines.{sent_drop}
use Rattle.aw_msg_print.proofs.sent.push_sent.Goals as goal

pub loop-number-preserved : goal.loop-number-preserved
loop-number-preserved c =
    let d = c.args.names.now.grammar.now in
    let w = words_of d in
    let f = message_of (grammar_of d) in
    let ms = c.args.messages.now in
    let xs = map f ms in
    let i = c.loop-number.number in
    let m = c.index-messages-number.result in
    let got : slice_get xs i ≡ Some (f m) = slice_get-map f ms i ∙ ap (option_map f) (slice_get_read ms (length ms) i m refl c.loop-number-test.true c.index-messages-number.is) in
    record {
      added = ap (λ t. t ++ sent_lines w (i + 1) (drop (i + 1) xs))
          (c.in_ok-push_message.ensures.text ∙ ap (λ g. c.loop-number.text ++ sent_line (words_of g) i (message_of (grammar_of g) m)) c.loop-number.invariant.grammar)
          ∙ append_assoc c.loop-number.text (sent_line w i (f m)) (sent_lines w (i + 1) (drop (i + 1) xs))
          ∙ ap (λ t. c.loop-number.text ++ t) (sym (sent_drop w xs i (i + 1) (f m) refl got))
          ∙ c.loop-number.invariant.added;
      grammar = c.push_message.ensures.grammar ∙ c.loop-number.invariant.grammar;
    }
