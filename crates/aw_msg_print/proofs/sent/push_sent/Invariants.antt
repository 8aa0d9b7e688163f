use Rattle.std.proofs.Common.{◌≡◌, ◌++◌, drop, map}
use Rattle.aw_grammar.specs.GrammarOf.{grammar_of, words_of}
use Rattle.aw_msg.specs.MessageView.{message_of}
use Rattle.aw_law_sites.specs.Transcripts.{sent_lines}
use Rattle.aw_msg_print.proofs.sent.push_sent.Given as goal

-- the lines so far, and those that are left
abbrev pub invariant-loop-number : goal.invariant-loop-number
invariant-loop-number l = record {
  added : l.text ++ sent_lines (words_of l.initial.names.grammar.now) l.number (drop l.number (map (message_of (grammar_of l.initial.names.grammar.now)) l.messages))
      ≡ l.initial.text ++ sent_lines (words_of l.initial.names.grammar.now) l.from (drop l.from (map (message_of (grammar_of l.initial.names.grammar.now)) l.messages));
  grammar : l.names.grammar.now ≡ l.initial.names.grammar.now;
}
