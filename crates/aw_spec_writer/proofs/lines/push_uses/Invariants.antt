use Rattle.std.proofs.Common.{◌≡◌, ◌++◌, drop, map}
use Rattle.aw_grammar.specs.GrammarOf.{words_of}
use Rattle.aw_spec_writer.specs.SpecLines.{use_line}
use Rattle.aw_spec_writer.specs.LineTexts.{text_of_lines}
use Rattle.aw_spec_writer.proofs.lines.push_uses.Given as goal

abbrev pub invariant-loop-usage : goal.invariant-loop-usage
invariant-loop-usage l = l.text ++ text_of_lines (map (use_line (words_of l.g).roles (words_of l.g).sorts) (drop l.usage-index l.usage-items)) ≡
    l.fn.text ++ text_of_lines (map (use_line (words_of l.g).roles (words_of l.g).sorts) l.f.uses)
