use Rattle.std.proofs.Common.{ap, ◌∙◌}
use Rattle.aw_lex.specs.Lines.{lines_of}
use Rattle.aw_spec.specs.Reading.{specification}
use Rattle.aw_spec_writer.proofs.Programs.{ok_read, lines_read, loads_read, err_read}
use Rattle.aw_spec_writer.proofs.law.read_again.Goals as goal

pub returns-clause-ok : goal.returns-clause-ok
returns-clause-ok c =
    ok_read c.read_spec.result _ _ _ (ap (λ text. specification (lines_of text)) c.as_slice.ensures ∙ c.in_ok-text.ensures.again c.requires.faces c.requires.types) c.read_spec.ensures.exact

pub returns-clause-lines : goal.returns-clause-lines
returns-clause-lines c =
    lines_read c.read_spec.result _ _ _ (ap (λ text. specification (lines_of text)) c.as_slice.ensures ∙ c.in_ok-text.ensures.again c.requires.faces c.requires.types) c.read_spec.ensures.exact

pub returns-clause-loads : goal.returns-clause-loads
returns-clause-loads c =
    loads_read c.read_spec.result _ _ _ (ap (λ text. specification (lines_of text)) c.as_slice.ensures ∙ c.in_ok-text.ensures.again c.requires.faces c.requires.types) c.read_spec.ensures.exact

pub returns-clause-err : goal.returns-clause-err
returns-clause-err c =
    err_read c.read_spec.result _ _ _ (ap (λ text. specification (lines_of text)) c.as_slice.ensures ∙ c.in_ok-text.ensures.again c.requires.faces c.requires.types) c.read_spec.ensures.exact
