use Rattle.std.proofs.Common.{◌+◌, suc, ap, subst, arith}
use Rattle.aw_grammar.specs.GrammarOf.{words_of, grammar_of}
use Rattle.aw_out.specs.Report.{Prints}
use Rattle.aw_print.specs.Drafts.{so_far}
use Rattle.aw_print.specs.Rows.{state_of, opening_of_row, result_refs}
use Rattle.aw_print.proofs.ReadyLemmas.{ended_grows}
use Rattle.aw_print.proofs.RowLemmas.{ended, row-Grows, row-long}
use Rattle.aw_print.proofs.EndlessLemmas.{never_ends}
use Rattle.aw_print.proofs.UnfoldLemmas.{line_from}
use Rattle.aw_print.proofs.row.artifact_row.Goals as goal

pub returns-clause-grows : goal.returns-clause-grows
returns-clause-grows g c = ended_grows _ _ _ _ c.print_or_forget-result.ensures.ended

pub returns-clause-text : goal.returns-clause-text
returns-clause-text g c =
    let w = words_of c.args.g.now in
    let k = g.F.Facts.map c.args.f.now in
    let opening = opening_of_row w c.args.node.now (state_of c.args.done.now) in
    let outs = result_refs (grammar_of c.args.g.now) c.args.node.now in
    ended _ (row-Grows w k opening c.args.inherited.now outs) (λ n. row-long n w k opening c.args.inherited.now outs) _ _ _ c.bytes-so_far.ensures.within c.print_or_forget-result.ensures.ended

pub returns-clause-unfolded : goal.returns-clause-unfolded
returns-clause-unfolded g c = λ ins outs a b.
    let w = words_of c.args.g.now in
    let k = g.F.Facts.map c.args.f.now in
    let opening = opening_of_row w c.args.node.now (state_of c.args.done.now) in
    let os = result_refs (grammar_of c.args.g.now) c.args.node.now in
    let (l, h) = line_from w k c.args.node.now (state_of c.args.done.now) c.args.inherited.now os ins outs a b in
    let n = l + suc c.args.report.now.limit in
    subst (λ t. Prints t c.args.report.now c.print_or_forget-result.new.report c.print_or_forget-result.result) (ap so_far (h n (omega arith)))
    (ended _ (row-Grows w k opening c.args.inherited.now os) (λ n. row-long n w k opening c.args.inherited.now os) _ _ _ c.bytes-so_far.ensures.within
    c.print_or_forget-result.ensures.ended n (omega arith))

pub returns-clause-endless : goal.returns-clause-endless
returns-clause-endless g c = λ r m e.
    let w = words_of c.args.g.now in
    let k = g.F.Facts.map c.args.f.now in
    let opening = opening_of_row w c.args.node.now (state_of c.args.done.now) in
    let outs = result_refs (grammar_of c.args.g.now) c.args.node.now in
    never_ends w k opening c.args.inherited.now outs r m e _ _ c.print_or_forget-result.result c.print_or_forget-result.ensures.ended
