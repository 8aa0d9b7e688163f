use Rattle.std.proofs.Common.{arith, rules}
use Rattle.std.proofs.lemmas.List.{nil_from_length}
use Rattle.aw_grammar.specs.GrammarOf.{words_of}
use Rattle.aw_print.specs.Growing.{printing}
use Rattle.aw_print.proofs.GrowingLemmas.{hands_on}
use Rattle.aw_print.proofs.ListLemmas.{none_listed, first_item, first_and, first_not}
use Rattle.aw_print.proofs.list.print_refs.Goals as goal

pub returns-in-empty-clause-prints : goal.returns-in-empty-clause-prints
returns-in-empty-clause-prints g c = none_listed (words_of c.args.g.now) (g.F.Facts.map c.args.f.now) c.args.refs.now _ (nil_from_length c.args.refs.now (omega arith))

pub returns-in_err-print_ref-in-len1-up-clause-prints : goal.returns-in_err-print_ref-in-len1-up-clause-prints
returns-in_err-print_ref-in-len1-up-clause-prints g c =
    let rs = c.args.refs.now in
    let r = c.first-item.result in
    hands_on _ _ _ _ _ c.from_residual.result (search rules)
    (first_not (words_of c.args.g.now) (g.F.Facts.map c.args.f.now) r rs _ (printing c.args.text.now c.args.report.now)
    (printing c.print_ref.new.text c.print_ref.new.report) _ (first_item rs r c.in-len1-up.len_at_least c.first-item.is)
    c.in_err-print_ref-in-len1-up.ensures.prints)

pub returns-in_ok-print_ref-in-len1-up-clause-prints : goal.returns-in_ok-print_ref-in-len1-up-clause-prints
returns-in_ok-print_ref-in-len1-up-clause-prints g c =
    let rs = c.args.refs.now in
    let r = c.first-item.result in
    first_and (words_of c.args.g.now) (g.F.Facts.map c.args.f.now) r rs _ _ _ _ c.print_following.result
    (first_item rs r c.in-len1-up.len_at_least c.first-item.is) c.in_ok-print_ref-in-len1-up.ensures.prints c.print_following.ensures.prints
