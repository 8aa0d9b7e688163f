use Rattle.std.proofs.Common.{Ok, Err, ap, sym, subst, ◌∙◌, slice_get}
use Rattle.aw_out.specs.declared.error.PrintFault.{PrintFault}
use Rattle.aw_out.specs.Report.{Prints}
use Rattle.aw_term.specs.Held.{Held}
use Rattle.aw_book_join.proofs.Telling.{prints-line, long-line, tells-line, held-at}
use Rattle.aw_book_join.proofs.lines.print_task.Goals as goal

pub returns-in-Ok-clause-prints : goal.returns-in-Ok-clause-prints
returns-in-Ok-clause-prints g c = record {
  text = λ h at text line.
      (prints-line c.args.accepted.now.grammar (g.W.Workspace.seen c.args.site.now).equations h c.args.lines.now.report c.print_row-printed.new.report (Ok tt)
      (λ q read. c.in-Ok.ensures.prints h q at read) text line).ok;
  long = λ h at. tt;
}

pub returns-in-Err-clause-prints : goal.returns-in-Err-clause-prints
returns-in-Err-clause-prints g c = record {
  text = λ h at text line. tt;
  long = λ h at.
      let d = c.args.accepted.now.grammar in
      let w = c.args.site.now in
      let held = c.at.result.now in
      let old = c.args.lines.now.report in
      let new = c.print_row-printed.new.report in
      let here = ap (λ xs. slice_get xs c.args.place) (sym c.nodes.ensures) ∙ c.at.ensures in
      let same = held-at (g.W.Workspace.its_grammar w) (g.W.Workspace.its_nodes w) (g.W.Workspace.seen c.args.site.now).held c.args.place held h (g.met.W.Workspace.holds w) here at in
      tells-line d (g.W.Workspace.seen c.args.site.now).equations h held c.in-Err.fault c.fault_at.result (ap (λ (x : Held). x.node) same) c.fault_at.ensures
      (λ large. long-line d (g.W.Workspace.seen c.args.site.now).equations h old new c.requires.ready.limit c.requires.ready.short
      (λ text line. subst (λ (f : PrintFault). Prints text old new (Err f)) large
      (prints-line d (g.W.Workspace.seen c.args.site.now).equations h old new (Err c.in-Err.fault) (λ q read. c.in-Err.ensures.prints h q at read) text line)));
}
