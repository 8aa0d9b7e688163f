use Rattle.std.proofs.Common.{◌≡◌, ◌++◌, drop, map}
use Rattle.aw_grammar.specs.GrammarOf.{words_of}
use Rattle.aw_spec_writer.specs.SpecLines.{offer_line}
use Rattle.aw_spec_writer.specs.LineTexts.{text_of_lines}
use Rattle.aw_spec_writer.proofs.lines.push_offers.Given as goal

abbrev pub invariant-loop-sort : goal.invariant-loop-sort
invariant-loop-sort l = l.text ++ text_of_lines (map (offer_line (words_of l.g).sorts) (drop l.sort-index l.sort-items)) ≡ l.fn.text ++ text_of_lines (map (offer_line (words_of l.g).sorts) l.f.offers)
