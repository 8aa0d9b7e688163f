use Rattle.std.proofs.Common.{◌==◌, ◌+◌, ◌∙◌, sym, ap, subst, arith, length, length-drop, drop, Ok}
use Rattle.std.proofs.lemmas.List.{drop-drop}
use Rattle.std.proofs.lemmas.List.Sums.{prefix_len-le-length}
use Rattle.aw_lex.specs.Lines.{lines_of}
use Rattle.aw_spec.specs.declared.draft.AfterLine.{AfterLine}
use Rattle.aw_spec.specs.Reading.{read_line, read_lines}
use Rattle.aw_spec.specs.ReaderAnswers.{draft_of, IsStill, Reads}
use Rattle.aw_spec.proofs.Feeds.{feeds, feeds_read, feeds_dropped}
use Rattle.aw_spec.proofs.LineSteps.{next_read, one_dropped, behind_both, behind_by_length, line_behind}
use Rattle.aw_spec.proofs.read.lines_read.Goals as goal

pub loop-line-preserved : goal.loop-line-preserved
loop-line-preserved c =
    let l = c.loop-line in
    let text = c.args.text.now in
    let line = c.in-Some.line.now in
    let behind = c.in-Some.behind.now in
    let d = draft_of l.reader in
    let lines = c.in-Some.ensures.lines in
    let after = c.read_line.new.self in
    let read = subst (λ (x : AfterLine). Reads d after (Ok x) (read_line d line)) c.in-Ok-Next.field-0-is c.in-Ok-Next.ensures.reads in
    let one = next_read d (draft_of after) l.lines line (lines_of l.rest.now) (lines_of behind) lines read in
    let gone = one_dropped l.lines line (lines_of l.rest.now) (lines_of behind) (lines_of text) lines l.invariant.dropped in
    let k = feeds behind in
    let rest = c.past_feeds-rest.ensures.rest in
    let count = c.past_feeds-rest.ensures.lines in
    record {
      stage = subst (λ (x : AfterLine). IsStill after (Ok x)) c.in-Ok-Next.field-0-is c.in-Ok-Next.ensures.stage;
      read =
          ap (λ n. read_lines (draft_of after) n (lines_of c.past_feeds-rest.result.now)) count
          ∙ ap (λ r. read_lines (draft_of after) (l.lines + 1 + k) (lines_of r)) rest
          ∙ feeds_read (draft_of after) (l.lines + 1) behind ∙ one ∙ l.invariant.read;
      dropped =
          ap lines_of rest ∙ feeds_dropped behind ∙ ap (drop k) gone ∙ drop-drop k (l.lines + 1) (lines_of text)
          ∙ ap (λ n. drop n (lines_of text)) (sym count);
      suffix = behind_both c.past_feeds-rest.result.now l.rest.now text (behind_both c.past_feeds-rest.result.now behind l.rest.now (k, rest)
          (line_behind l.rest.now (line, behind) c.in-Some.ensures.value)) l.invariant.suffix;
      within = omega (arith, c.in-Some.ensures.shorter, count, ap length rest, length-drop k behind, prefix_len-le-length (λ b. b == 10) behind, l.invariant.within);
    }

pub returns-in-Ok-End-clause-rest : goal.returns-in-Ok-End-clause-rest
returns-in-Ok-End-clause-rest c =
    let l = c.loop-line in
    let text = c.args.text.now in
    let line = c.in-Some.line.now in
    let behind = c.in-Some.behind.now in
    let suffix = behind_both behind l.rest.now text (line_behind l.rest.now (line, behind) c.in-Some.ensures.value) l.invariant.suffix in
    ap lines_of (behind_by_length behind text suffix) ∙ one_dropped l.lines line (lines_of l.rest.now) (lines_of behind) (lines_of text) c.in-Some.ensures.lines l.invariant.dropped
