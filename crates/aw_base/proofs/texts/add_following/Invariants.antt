use Rattle.std.proofs.Common.{◌≡◌, ◌++◌, take, codes, flat_map}
use Rattle.std.specs.Io.{StartsWith}
use Rattle.aw_term.specs.Artifacts.{ref_text}
use Rattle.aw_grammar.specs.GrammarOf.{words_of}
use Rattle.aw_base.proofs.texts.add_following.Given as goal

abbrev pub invariant-loop-r : goal.invariant-loop-r
invariant-loop-r l = record {
  added : l.text ≡ l.initial.text ++ flat_map (λ r. codes ", " ++ ref_text (words_of l.initial.names.grammar.now) r) (take l.r-index l.refs);
  grammar : l.names.grammar.now ≡ l.initial.names.grammar.now;
  kept : StartsWith l.text l.initial.text;
}
