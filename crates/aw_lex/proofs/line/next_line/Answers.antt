use Rattle.std.proofs.Common.{sym}
use Rattle.aw_lex.proofs.LineCuts.{lines_by_cut, all_is_last}
use Rattle.aw_lex.proofs.line.next_line.Goals as goal

pub returns-in-Some-clause-lines : goal.returns-in-Some-clause-lines
returns-in-Some-clause-lines c = lines_by_cut c.in-Some.line.now c.args.text.now c.in-Some.rest.now (sym c.in-Some.ensures.value)

pub returns-in-None-clause-lines : goal.returns-in-None-clause-lines
returns-in-None-clause-lines c =
    let halves = c.split_at in
    all_is_last c.args.text.now halves.result.0.now halves.result.1.now (sym c.if-is_empty.ensures) (sym c.in-None.ensures.value)
    halves.ensures.by_index.0 halves.ensures.back_len
