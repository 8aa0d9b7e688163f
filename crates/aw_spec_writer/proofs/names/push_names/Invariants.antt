use Rattle.std.proofs.Common.{◌≡◌, ◌++◌, drop}
use Rattle.aw_grammar.specs.Written.{side_by_side}
use Rattle.aw_spec.specs.Lines.{as_words}
use Rattle.aw_spec_writer.specs.LineTexts.{names_text}
use Rattle.aw_spec_writer.proofs.Pushing.{separated}
use Rattle.aw_spec_writer.proofs.names.push_names.Given as goal

abbrev pub invariant-loop-name : goal.invariant-loop-name
invariant-loop-name l = l.text ++ separated l.separator (side_by_side (as_words (drop l.name-index l.names))) ≡ l.fn.text ++ names_text l.names
