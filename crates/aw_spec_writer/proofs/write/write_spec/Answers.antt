use Rattle.std.proofs.Common.{ap, ◌∙◌}
use Rattle.aw_lex.specs.Lines.{lines_of}
use Rattle.aw_grammar.specs.GrammarOf.{declarations_of}
use Rattle.aw_spec.specs.Reading.{specification}
use Rattle.aw_spec.specs.Views.{spec_seen}
use Rattle.aw_spec_writer.specs.SpecLines.{declaration_lines, face_lines, typing_lines, free_lines, rule_lines}
use Rattle.aw_spec_writer.proofs.Programs.{again, whole_text}
use Rattle.aw_spec_writer.proofs.write.write_spec.Goals as goal

pub returns-clause-exact : goal.returns-clause-exact
returns-clause-exact c =
    let s = c.args.s.now in
    whole_text (declaration_lines (declarations_of s.grammar)) (face_lines (spec_seen s)) (typing_lines (spec_seen s)) (free_lines (spec_seen s)) (rule_lines (declarations_of s.grammar)) _ _ _ _ _ _
    c.new-text.ensures c.in_ok-push_declarations.ensures c.in_ok-push_faces.ensures c.in_ok-push_typing.ensures c.in_ok-push_free.ensures c.in_ok-push_rules.ensures.text

pub returns-clause-again : goal.returns-clause-again
returns-clause-again c = λ faces types.
    let s = c.args.s.now in
    ap (λ text. specification (lines_of text)) (whole_text (declaration_lines (declarations_of s.grammar)) (face_lines (spec_seen s))
    (typing_lines (spec_seen s)) (free_lines (spec_seen s)) (rule_lines (declarations_of s.grammar)) _ _ _ _ _ _
    c.new-text.ensures c.in_ok-push_declarations.ensures c.in_ok-push_faces.ensures c.in_ok-push_typing.ensures c.in_ok-push_free.ensures c.in_ok-push_rules.ensures.text)
    ∙ again s c.in_ok-push_rules.ensures.numbers faces types
