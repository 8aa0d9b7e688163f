use Rattle.std.proofs.Common.{◌≡◌, ◌++◌, take, codes, flat_map}
use Rattle.aw_grammar.specs.GrammarOf.{words_of}
use Rattle.aw_law_sites.specs.Transcripts.{equation_text}
use Rattle.aw_store.specs.EquationView.{equation_of}
use Rattle.aw_msg_print.proofs.sent.push_following.Given as goal

abbrev pub invariant-loop-e : goal.invariant-loop-e
invariant-loop-e l = record {
  added : l.text ≡ l.initial.text ++ flat_map (λ e. codes "; " ++ equation_text (words_of l.initial.names.grammar.now) (equation_of e)) (take l.e-index l.es);
  grammar : l.names.grammar.now ≡ l.initial.names.grammar.now;
}
