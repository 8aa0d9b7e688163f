use Rattle.std.proofs.Common.{◌+◌, drop, Ok, Err, rules}
use Rattle.std.proofs.lemmas.List.{drop_all}
use Rattle.aw_grammar.specs.GrammarOf.{words_of}
use Rattle.aw_print.specs.Growing.{printing}
use Rattle.aw_print.proofs.GrowingLemmas.{starts, hands_on}
use Rattle.aw_print.proofs.ListLemmas.{one_more, at_item, no_more}
use Rattle.aw_print.proofs.list.print_following.Goals as goal

pub loop-r-init : goal.loop-r-init
loop-r-init g c = record {
  rest = c.requires;
  underway = starts _ _;
}

pub loop-r-preserved : goal.loop-r-preserved
loop-r-preserved g c =
    let w = words_of c.args.g.now in
    let k = g.F.Facts.map c.args.f.now in
    let i = c.loop-r.r-index in
    let rs = c.args.refs.now in
    record {
      rest = c.in_ok-print_next.ensures.rest;
      underway = one_more w k _ c.r-item.result (drop i rs) (drop (i + 1) rs) _ _ _ (Ok tt) (at_item rs i c.r-item.result c.loop-r-test.true
          c.r-item.is) c.loop-r.invariant.underway c.in_ok-print_next.ensures.prints;
    }

pub returns-clause-prints : goal.returns-clause-prints
returns-clause-prints g c =
    no_more (words_of c.args.g.now) (g.F.Facts.map c.args.f.now) _ _ _ (drop c.loop-r.r-index c.args.refs.now)
    (drop_all c.loop-r.r-index c.args.refs.now c.loop-r-test.false) c.loop-r.invariant.underway

pub returns-in_err-print_next-clause-prints : goal.returns-in_err-print_next-clause-prints
returns-in_err-print_next-clause-prints g c =
    let w = words_of c.args.g.now in
    let k = g.F.Facts.map c.args.f.now in
    let i = c.loop-r.r-index in
    let rs = c.args.refs.now in
    hands_on _ _ _ _ _ c.from_residual.result (search rules)
    (one_more w k _ c.r-item.result (drop i rs) (drop (i + 1) rs) _ (printing c.loop-r.text c.loop-r.report)
    (printing c.print_next.new.text c.print_next.new.report) (Err _) (at_item rs i c.r-item.result c.loop-r-test.true c.r-item.is)
    c.loop-r.invariant.underway c.in_err-print_next.ensures.prints)
