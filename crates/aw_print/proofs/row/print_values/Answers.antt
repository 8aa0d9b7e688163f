use Rattle.std.proofs.Common.{map, codes, Ok, refl, ap, rules}
use Rattle.aw_term.specs.Names.{result}
use Rattle.aw_term.specs.Rules.{upto}
use Rattle.aw_grammar.specs.GrammarOf.{words_of, grammar_of}
use Rattle.aw_print.specs.Drafts.{listed, draft}
use Rattle.aw_print.specs.Rows.{result_refs}
use Rattle.aw_print.specs.Stacks.{origin, desk}
use Rattle.aw_print.proofs.GrowingLemmas.{first_stops, hands_on, out_of_memory, stops_later}
use Rattle.aw_print.proofs.RowLemmas.{after_inherited, after_results, values_1, values_2, values_3, values_4, same_values}
use Rattle.aw_print.proofs.BeginLemmas.{rest_on}
use Rattle.aw_print.proofs.row.print_values.Goals as goal

pub returns-in_err-print_refs-clause-prints : goal.returns-in_err-print_refs-clause-prints
returns-in_err-print_refs-clause-prints g c =
    let w = words_of c.args.g.now in
    let k = g.F.Facts.map c.args.f.now in
    let outs = result_refs (grammar_of c.args.g.now) c.args.node.now in
    same_values w k _ _ outs outs _ _ c.from_residual.result c.as_slice.ensures refl
    (hands_on _ _ _ _ _ c.from_residual.result (search rules) (first_stops (λ n. listed (map (draft n w k) c.as_slice.result.now)) (after_inherited w k outs) _ _ _ c.in_err-print_refs.ensures.prints))

pub returns-in_err-push_array-clause-prints : goal.returns-in_err-push_array-clause-prints
returns-in_err-push_array-clause-prints g c =
    let w = words_of c.args.g.now in
    let k = g.F.Facts.map c.args.f.now in
    let outs = result_refs (grammar_of c.args.g.now) c.args.node.now in
    same_values w k _ _ outs outs _ _ c.from_residual-in_err-push_array.result c.as_slice.ensures refl
    (hands_on _ _ _ _ _ c.from_residual-in_err-push_array.result (search rules) (out_of_memory _ _ _ _ _ refl (values_1 w k c.as_slice.result.now outs _ _ c.in_ok-print_refs.ensures.prints)))

pub returns-in_err-print_results-clause-prints : goal.returns-in_err-print_results-clause-prints
returns-in_err-print_results-clause-prints g c =
    let w = words_of c.args.g.now in
    let k = g.F.Facts.map c.args.f.now in
    let node = c.args.node.now in
    let outs = map (result node) (upto 1 c.gives_of.result) in
    let before = values_2 w k c.as_slice.result.now outs _ _ _ _ (values_1 w k c.as_slice.result.now outs _ _ c.in_ok-print_refs.ensures.prints) c.in_ok-push_array.ensures.ok in
    same_values w k _ _ outs _ _ _ c.from_residual-in_err-print_results.result c.as_slice.ensures (ap (λ m. map (result node) (upto 1 m)) c.gives_of.ensures)
    (hands_on _ _ _ _ _ c.from_residual-in_err-print_results.result (search rules)
    (stops_later _ _ _ _ _ _ before (first_stops (λ n. listed (map (draft n w k) outs)) after_results _ _ _ c.in_err-print_results.ensures.prints)))

pub returns-in_err-push_array-2-clause-prints : goal.returns-in_err-push_array-2-clause-prints
returns-in_err-push_array-2-clause-prints g c =
    let w = words_of c.args.g.now in
    let k = g.F.Facts.map c.args.f.now in
    let node = c.args.node.now in
    let outs = map (result node) (upto 1 c.gives_of.result) in
    let before = values_2 w k c.as_slice.result.now outs _ _ _ _ (values_1 w k c.as_slice.result.now outs _ _ c.in_ok-print_refs.ensures.prints) c.in_ok-push_array.ensures.ok in
    same_values w k _ _ outs _ _ _ c.from_residual-in_err-push_array-2.result c.as_slice.ensures (ap (λ m. map (result node) (upto 1 m)) c.gives_of.ensures)
    (hands_on _ _ _ _ _ c.from_residual-in_err-push_array-2.result (search rules)
    (out_of_memory _ _ _ _ _ refl (values_3 w k c.as_slice.result.now outs _ _ _ before c.in_ok-print_results.ensures.prints)))

pub returns-clause-prints : goal.returns-clause-prints
returns-clause-prints g c =
    let w = words_of c.args.g.now in
    let k = g.F.Facts.map c.args.f.now in
    let node = c.args.node.now in
    let outs = map (result node) (upto 1 c.gives_of.result) in
    let before = values_2 w k c.as_slice.result.now outs _ _ _ _ (values_1 w k c.as_slice.result.now outs _ _ c.in_ok-print_refs.ensures.prints) c.in_ok-push_array.ensures.ok in
    same_values w k _ _ outs _ _ _ (Ok tt) c.as_slice.ensures (ap (λ m. map (result node) (upto 1 m)) c.gives_of.ensures)
    (values_4 w k c.as_slice.result.now outs _ _ _ _ (values_3 w k c.as_slice.result.now outs _ _ _ before c.in_ok-print_results.ensures.prints) c.in_ok-push_array-2.ensures.ok)

pub print_results-requires : goal.print_results-requires
print_results-requires g c =
    rest_on (origin c.args.g.now (g.F.Facts.map c.args.f.now) (g.F.Facts.names c.args.f.now)) (desk c.print_refs.new.text c.print_refs.new.report
    c.print_refs.new.printer) (desk _ c.print_refs.new.report c.print_refs.new.printer) (codes ") <") c.in_ok-push_array.ensures.ok refl refl refl
    c.in_ok-print_refs.ensures.rest

pub returns-clause-rest : goal.returns-clause-rest
returns-clause-rest g c =
    rest_on (origin c.args.g.now (g.F.Facts.map c.args.f.now) (g.F.Facts.names c.args.f.now))
    (desk c.print_results.new.text c.print_results.new.report c.print_results.new.printer)
    (desk _ c.print_results.new.report c.print_results.new.printer) (codes ">\n") c.in_ok-push_array-2.ensures.ok refl refl refl
    c.in_ok-print_results.ensures.rest
