use Rattle.std.proofs.Common.{◌∙◌, sym, ap}
use Rattle.aw_term_reader.specs.Lexemes.{lexemes}
use Rattle.aw_term_reader.proofs.SoundTerms.{tokens_are_sound}
use Rattle.aw_spec.specs.ReadLine.{line_of}
use Rattle.aw_spec.specs.Views.{line_seen}
use Rattle.aw_spec.proofs.SoundLines.{line_declared}
use Rattle.aw_spec.proofs.spelled.spelled_line.Goals as goal

pub returns-clause-declared : goal.returns-clause-declared
returns-clause-declared c =
    let line = c.args.line.now in
    let found = c.read_tokens.new.found in
    line_declared (lexemes line found) (line_seen c.in_ok-spelled.spelled) (tokens_are_sound line 0 found c.in_ok-read_tokens.ensures.slices)
    (ap (λ ts. line_of (lexemes line ts)) (sym c.as_slice.ensures) ∙ c.in_ok-spelled.ensures)
