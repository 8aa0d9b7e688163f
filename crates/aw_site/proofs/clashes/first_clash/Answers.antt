use Rattle.std.proofs.Common.{◌∙◌, ◌+◌, ap, sym, map, take, drop, option_map}
use Rattle.aw_store.specs.EquationView.{equation_of}
use Rattle.aw_law_sites.specs.Receiving.{add_all, first_clash}
use Rattle.aw_site.specs.Views.{clash_of}
use Rattle.aw_site.proofs.Steps.{drop_map, take_map}
use Rattle.aw_site.proofs.Clashing.{clash_next, clash_here}
use Rattle.aw_site.proofs.clashes.first_clash.Goals as goal

pub returns-in-Some : goal.returns-in-Some
returns-in-Some g c =
    let k = g.F.Facts.map c.args.facts.now in
    let es = c.args.es.now in
    let i = c.loop-i.i in
    let x = c.index-es-i.result in
    sym (sym c.loop-i.invariant ∙ ap (first_clash (add_all k (map equation_of (take i es)))) (drop_map equation_of es i x c.loop-i-test.true c.index-es-i.is)
    ∙ clash_here k (map equation_of (take i es)) (map equation_of (drop (i + 1) es)) (equation_of x) (clash_of c.in-Some.clash) (sym c.in_ok-clash.ensures ∙ ap (option_map clash_of) c.in-Some.is))

pub loop-i-preserved : goal.loop-i-preserved
loop-i-preserved g c =
    let k = g.F.Facts.map c.args.facts.now in
    let es = c.args.es.now in
    let i = c.loop-i.i in
    let x = c.index-es-i.result in
    ap (λ m. first_clash (add_all k m) (map equation_of (drop (i + 1) es))) (take_map equation_of es i x c.loop-i-test.true c.index-es-i.is)
    ∙ sym (clash_next k (map equation_of (take i es)) (map equation_of (drop (i + 1) es)) (equation_of x) (sym c.in_ok-clash.ensures ∙ ap (option_map clash_of) c.in_default.is))
    ∙ sym (ap (first_clash (add_all k (map equation_of (take i es)))) (drop_map equation_of es i x c.loop-i-test.true c.index-es-i.is))
    ∙ c.loop-i.invariant
