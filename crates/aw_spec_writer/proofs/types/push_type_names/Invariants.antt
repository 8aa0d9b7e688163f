use Rattle.std.proofs.Common.{◌≡◌, ◌++◌, [], drop, map}
use Rattle.aw_grammar.specs.Written.{side_by_side}
use Rattle.aw_term.specs.Rules.{get}
use Rattle.aw_spec.specs.Lines.{as_words}
use Rattle.aw_spec.specs.TypeLines.{type_names}
use Rattle.aw_spec_writer.specs.LineTexts.{names_text}
use Rattle.aw_spec_writer.proofs.Pushing.{separated}
use Rattle.aw_spec_writer.proofs.types.push_type_names.Given as goal

abbrev pub invariant-loop-number : goal.invariant-loop-number
invariant-loop-number l =
    l.text ++ separated l.separator (side_by_side (as_words (map (get [] (type_names l.t)) (drop l.number-index l.number-items)))) ≡ l.fn.text ++ names_text (map (get [] (type_names l.t)) l.numbers)
