use Rattle.std.proofs.Common.{◌≡◌, ◌+◌, ◌-◌, ◌∷◌, Ok, Err, map, ap, sym, ◌∙◌, refl, rules}
use Rattle.aw_term.specs.Names.{Ref, Result, result}
use Rattle.aw_term.specs.Rules.{upto}
use Rattle.aw_grammar.specs.GrammarOf.{words_of}
use Rattle.aw_print.specs.Growing.{printing}
use Rattle.aw_print.proofs.GrowingLemmas.{starts, hands_on}
use Rattle.aw_print.proofs.ListLemmas.{one_more, no_more, results_from, results_end}
use Rattle.aw_print.proofs.list.print_later_results.Goals as goal

pub loop-j-init : goal.loop-j-init
loop-j-init g c = record {
  rest = c.requires.rest;
  same_node = refl;
  underway = starts _ _;
}

pub returns-clause-prints : goal.returns-clause-prints
returns-clause-prints g c =
    no_more (words_of c.args.g.now) (g.F.Facts.map c.args.f.now) _ _ _ _ (results_end c.args.r.now.node c.loop-j.j c.args.gives c.loop-j-test.false) c.loop-j.invariant.underway

pub loop-j-preserved : goal.loop-j-preserved
loop-j-preserved g c =
    let w = words_of c.args.g.now in
    let k = g.F.Facts.map c.args.f.now in
    let node = c.args.r.now.node in
    let j = c.loop-j.j in
    let r : Ref = record { node = c.loop-j.r.node; slot = Result (c.from.result + 1) } in
    let this : result node (j + 1) ≡ r = λ i. record { node = sym c.loop-j.invariant.same_node i; slot = Result (sym c.from.ensures i + 1) } in
    record {
      rest = c.in_ok-print_next.ensures.rest;
      same_node = c.loop-j.invariant.same_node;
      underway = one_more w k _ r (map (result node) (upto (j + 1) (c.args.gives - j))) (map (result node) (upto (j + 1 + 1) (c.args.gives - (j + 1)))) _ _ _ (Ok tt)
          (results_from node j c.args.gives c.loop-j-test.true ∙ ap (λ x. x ∷ map (result node) (upto (j + 1 + 1) (c.args.gives - (j + 1)))) this)
          c.loop-j.invariant.underway c.in_ok-print_next.ensures.prints;
    }

pub returns-in_err-print_next-clause-prints : goal.returns-in_err-print_next-clause-prints
returns-in_err-print_next-clause-prints g c =
    let w = words_of c.args.g.now in
    let k = g.F.Facts.map c.args.f.now in
    let node = c.args.r.now.node in
    let j = c.loop-j.j in
    let r : Ref = record { node = c.loop-j.r.node; slot = Result (c.from.result + 1) } in
    let this : result node (j + 1) ≡ r = λ i. record { node = sym c.loop-j.invariant.same_node i; slot = Result (sym c.from.ensures i + 1) } in
    hands_on _ _ _ _ _ c.from_residual.result (search rules)
    (one_more w k _ r (map (result node) (upto (j + 1) (c.args.gives - j))) (map (result node) (upto (j + 1 + 1) (c.args.gives - (j + 1)))) _
    (printing c.loop-j.text c.loop-j.report) (printing c.print_next.new.text c.print_next.new.report) (Err _)
    (results_from node j c.args.gives c.loop-j-test.true ∙ ap (λ x. x ∷ map (result node) (upto (j + 1 + 1) (c.args.gives - (j + 1)))) this)
    c.loop-j.invariant.underway c.in_err-print_next.ensures.prints)
