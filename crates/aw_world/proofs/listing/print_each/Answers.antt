use Rattle.std.proofs.Common.{◌∙◌, rules, ◌≡◌, ◌+◌, [], Ok, drop, ap, sym, subst, arith}
use Rattle.std.proofs.lemmas.Option.{slice_get-get_or}
use Rattle.aw_grammar.specs.GrammarOf.{words_of}
use Rattle.aw_out.specs.Report.{Prints}
use Rattle.aw_out.proofs.Printing.{Prints-nothing}
use Rattle.aw_term.specs.Artifacts.{artifact_text, row_text}
use Rattle.aw_law_sites.proofs.SideBySide.{Pairs-length as pairs_length}
use Rattle.aw_world.specs.Merged.{merged, nodes_of, held_at}
use Rattle.aw_world.proofs.Lines.{stops, goes_on, told_here, drop_all}
use Rattle.aw_world.proofs.RowsAt.{row_at, order_length, there}
use Rattle.aw_world.proofs.listing.print_each.Goals as goal

pub loop-spot-init : goal.loop-spot-init
loop-spot-init g c = record { named = c.requires.named; ready = c.requires.ready; prints = λ v shown rows read new result p. p }

pub print_at-requires-clause-there : goal.print_at-requires-clause-there
print_at-requires-clause-there g c =
    let f = g.W.Workspace in
    let i = c.loop-spot.spot-index in
    let is = slice_get-get_or c.args.spots.now i (record { site = 0; place = 0 }) c.loop-spot-test.true in
    let (h, e, k) = told_here (held_at f c.args.sites.now) c.args.spots.now (merged (nodes_of f c.args.sites.now)) i _ c.requires.order is in
    there _ h e

pub returns-in_err-print_at : goal.returns-in_err-print_at
returns-in_err-print_at g c = λ v shown rows read.
    let f = g.W.Workspace in
    let d = c.args.accepted.now.grammar in
    let i = c.loop-spot.spot-index in
    let is = slice_get-get_or c.args.spots.now i (record { site = 0; place = 0 }) c.loop-spot-test.true in
    let (q, dropped, printed) = row_at f g.met.W.Workspace.holds d c.args.sites.now c.requires.placed c.requires.homes v shown c.args.spots.now
    c.requires.order rows read i _ is c.loop-spot.report c.print_at.new.report c.print_at.result c.print_at.ensures.prints in
    c.loop-spot.invariant.prints v shown rows read c.print_at.new.report c.from_residual.result
    (stops (artifact_text (words_of d) (drop i rows)) (row_text (words_of d) q) (artifact_text (words_of d) (drop (i + 1) rows)) c.loop-spot.report
    c.print_at.new.report c.print_at.result c.from_residual.result _
    (ap (artifact_text (words_of d)) dropped) c.in_err-print_at.was (search rules) printed)

pub loop-spot-preserved : goal.loop-spot-preserved
loop-spot-preserved g c = record {
  named = c.print_at.ensures.names ∙ c.loop-spot.invariant.named;
  ready = c.print_at.ensures.ready;
  prints = λ v shown rows read new r next.
      let f = g.W.Workspace in
      let d = c.args.accepted.now.grammar in
      let i = c.loop-spot.spot-index in
      let is = slice_get-get_or c.args.spots.now i (record { site = 0; place = 0 }) c.loop-spot-test.true in
      let (q, dropped, printed) = row_at f g.met.W.Workspace.holds d c.args.sites.now c.requires.placed c.requires.homes v shown c.args.spots.now
      c.requires.order rows read i _ is c.loop-spot.report c.print_at.new.report c.print_at.result c.print_at.ensures.prints in
      c.loop-spot.invariant.prints v shown rows read new r
      (goes_on (artifact_text (words_of d) (drop i rows)) (row_text (words_of d) q) (artifact_text (words_of d) (drop (i + 1) rows)) c.loop-spot.report c.print_at.new.report new c.print_at.result r
      (ap (artifact_text (words_of d)) dropped) c.in_ok-print_at.was printed next);
}

pub returns : goal.returns
returns g c = λ v shown rows read.
    let f = g.W.Workspace in
    let d = c.args.accepted.now.grammar in
    let i = c.loop-spot.spot-index in
    let n = order_length f g.met.W.Workspace.holds d c.args.sites.now c.requires.placed c.requires.homes v shown c.args.spots.now c.requires.order in
    let m = pairs_length _ _ rows read in
    let none : drop i rows ≡ [] = drop_all rows i (omega (arith, n, m, c.loop-spot-test.false)) in
    c.loop-spot.invariant.prints v shown rows read c.loop-spot.report (Ok tt)
    (subst (λ qs. Prints (artifact_text (words_of d) qs) c.loop-spot.report c.loop-spot.report (Ok tt)) (sym none) (Prints-nothing c.loop-spot.report))
