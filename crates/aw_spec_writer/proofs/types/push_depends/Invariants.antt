use Rattle.std.proofs.Common.{◌≡◌, ◌++◌, drop, map}
use Rattle.aw_grammar.specs.Declarations.{sort_names}
use Rattle.aw_grammar.specs.GrammarOf.{declarations_of}
use Rattle.aw_spec_writer.specs.SpecLines.{depends_line}
use Rattle.aw_spec_writer.specs.LineTexts.{text_of_lines}
use Rattle.aw_spec_writer.proofs.types.push_depends.Given as goal

abbrev pub invariant-loop-d : goal.invariant-loop-d
invariant-loop-d l =
    l.text ++ text_of_lines (map (depends_line (sort_names (declarations_of l.g))) (drop l.d-index l.d-items)) ≡ l.fn.text ++ text_of_lines
    (map (depends_line (sort_names (declarations_of l.g))) l.declared)
