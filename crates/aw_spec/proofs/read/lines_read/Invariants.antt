use Rattle.std.proofs.Common.{◌≡◌, ◌+◌, ◌≤◌, length, drop}
use Rattle.aw_lex.specs.Lines.{lines_of}
use Rattle.aw_spec.specs.Reading.{read_lines, specification}
use Rattle.aw_spec.specs.ReaderAnswers.{draft_of, IsAtStage}
use Rattle.aw_spec.proofs.LineSteps.{IsBehind}
use Rattle.aw_spec.proofs.read.lines_read.Given as goal

abbrev pub invariant-loop-line : goal.invariant-loop-line
invariant-loop-line l =
    record {
      stage : IsAtStage l.reader;
      read : read_lines (draft_of l.reader) l.lines (lines_of l.rest) ≡ specification (lines_of l.text);
      dropped : lines_of l.rest ≡ drop l.lines (lines_of l.text);
      suffix : IsBehind l.rest l.text;
      within : l.lines + length l.rest ≤ length l.text;
    }

abbrev pub decreases-loop-line : goal.decreases-loop-line
decreases-loop-line l = length l.rest
