use Rattle.std.proofs.Common.{◌<◌, map, arith, rules}
use Rattle.aw_term.specs.Names.{result}
use Rattle.aw_term.specs.Rules.{upto}
use Rattle.aw_grammar.specs.GrammarOf.{words_of}
use Rattle.aw_print.specs.Growing.{printing}
use Rattle.aw_print.proofs.GrowingLemmas.{hands_on}
use Rattle.aw_print.proofs.ListLemmas.{none_listed, no_results, first_result, first_and, first_not}
use Rattle.aw_print.proofs.list.print_results.Goals as goal

pub returns-then-gives-eq0-clause-prints : goal.returns-then-gives-eq0-clause-prints
returns-then-gives-eq0-clause-prints g c = none_listed (words_of c.args.g.now) (g.F.Facts.map c.args.f.now) _ _ (no_results c.args.node.now c.args.gives (omega arith))

pub returns-in_err-print_ref-clause-prints : goal.returns-in_err-print_ref-clause-prints
returns-in_err-print_ref-clause-prints g c =
    let some : 0 < c.args.gives = omega arith in
    hands_on _ _ _ _ _ c.from_residual-in_err-print_ref.result (search rules)
    (first_not (words_of c.args.g.now) (g.F.Facts.map c.args.f.now) _ (map (result c.args.node.now) (upto 1 c.args.gives)) _
    (printing c.args.text.now c.args.report.now) (printing c.print_ref.new.text c.print_ref.new.report) _
    (first_result c.args.node.now _ c.args.gives c.in_ok-copy_node.ensures some) c.in_err-print_ref.ensures.prints)

pub returns-clause-prints : goal.returns-clause-prints
returns-clause-prints g c =
    let some : 0 < c.args.gives = omega arith in
    first_and (words_of c.args.g.now) (g.F.Facts.map c.args.f.now) _ (map (result c.args.node.now) (upto 1 c.args.gives)) _ _ _ _
    c.print_later_results.result (first_result c.args.node.now _ c.args.gives c.in_ok-copy_node.ensures some) c.in_ok-print_ref.ensures.prints
    c.print_later_results.ensures.prints
