use Rattle.std.proofs.Common.{◌≡◌, ℕ, List, ◌++◌, true, false, ap, sym, subst, ◌∙◌, slice_get, length, arith, rules}
use Rattle.std.proofs.lemmas.List.{length-map}
use Rattle.aw_list.proofs.Everyday.{get_within as some-at}
use Rattle.aw_node_list.specs.HeldView.{held_of}
use Rattle.aw_out.specs.Report.{Bounded}
use Rattle.aw_term.specs.Held.{Held}
use Rattle.aw_book_join.specs.Handing.{Hands}
use Rattle.aw_book_join.specs.Lines.{TellsTask}
use Rattle.aw_book_join.specs.Views.{is_asked}
use Rattle.aw_book_join.proofs.Handing.{no-prefix}
use Rattle.aw_book_join.proofs.Results.{hands-passed, tells-passed}
use Rattle.aw_book_join.proofs.Telling.{held-at, hands-none, told-none, told-some, tells-task, no-task}
use Rattle.aw_book_join.proofs.lines.print_next.Goals as goal

pub returns-then-not-is_asked-clause-hands : goal.returns-then-not-is_asked-clause-hands
returns-then-not-is_asked-clause-hands g c = record {
  text = λ h at text told.
      let d = c.args.accepted.now.grammar in
      let w = c.args.site.now in
      let v = c.args.view.now in
      let gr = g.W.Workspace.its_grammar w in
      let here = ap (λ xs. slice_get xs c.args.place) (sym c.nodes.ensures) ∙ c.at.ensures in
      let same = held-at gr (g.W.Workspace.its_nodes w) (g.W.Workspace.seen c.args.site.now).held c.args.place c.at.result.now h (g.met.W.Workspace.holds w) here at in
      let no : c.is_asked.result ≡ false = search rules in
      let asked : is_asked v h.node h.state ≡ false = ap (λ (x : Held). is_asked v x.node x.state) same ∙ (sym (c.is_asked.ensures gr) ∙ no) in
      hands-none (g.K.Sink.written c.args.out.now) c.args.lines.now.report.text text (told-none d v (g.W.Workspace.seen c.args.site.now).equations h text asked told);
  long = tt;
}

pub returns-in_err-print_task-clause-hands : goal.returns-in_err-print_task-clause-hands
returns-in_err-print_task-clause-hands g c = record {
  text = λ h at text told.
      hands-passed (g.K.Sink.written c.args.out.now) (g.K.Sink.written c.args.out.now)
      (c.args.lines.now.report.text ++ text) c.print_task.new.lines.report.text c.print_task.result c.from_residual.result _ c.in_err-print_task.was (search rules)
      (no-prefix (g.K.Sink.written c.args.out.now) (c.args.lines.now.report.text ++ text));
  long =
      let d = c.args.accepted.now.grammar in
      let w = c.args.site.now in
      let v = c.args.view.now in
      let gr = g.W.Workspace.its_grammar w in
      let nodes = g.W.Workspace.its_nodes w in
      let holds = g.met.W.Workspace.holds w in
      let many = ap length holds ∙ length-map nodes (held_of gr) in
      let (h, at) = some-at (g.W.Workspace.seen c.args.site.now).held c.args.place (omega (arith, many, c.requires.place)) in
      let here = ap (λ xs. slice_get xs c.args.place) (sym c.nodes.ensures) ∙ c.at.ensures in
      let same = held-at gr nodes (g.W.Workspace.seen c.args.site.now).held c.args.place c.at.result.now h holds here at in
      let yes : c.is_asked.result ≡ true = search rules in
      let asked : is_asked v h.node h.state ≡ true = ap (λ (x : Held). is_asked v x.node x.state) same ∙ (sym (c.is_asked.ensures gr) ∙ yes) in
      tells-passed (TellsTask d v (g.W.Workspace.seen c.args.site.now)) c.print_task.result c.from_residual.result _ c.in_err-print_task.was (search rules)
      (tells-task d v (g.W.Workspace.seen c.args.site.now) c.args.place h _ at asked (c.in_err-print_task.ensures.prints.long h at));
}

pub returns-clause-hands : goal.returns-clause-hands
returns-clause-hands g c = record {
  text = λ h at text told.
      let d = c.args.accepted.now.grammar in
      let w = c.args.site.now in
      let v = c.args.view.now in
      let gr = g.W.Workspace.its_grammar w in
      let here = ap (λ xs. slice_get xs c.args.place) (sym c.nodes.ensures) ∙ c.at.ensures in
      let same = held-at gr (g.W.Workspace.its_nodes w) (g.W.Workspace.seen c.args.site.now).held c.args.place c.at.result.now h (g.met.W.Workspace.holds w) here at in
      let yes : c.is_asked.result ≡ true = search rules in
      let asked : is_asked v h.node h.state ≡ true = ap (λ (x : Held). is_asked v x.node x.state) same ∙ (sym (c.is_asked.ensures gr) ∙ yes) in
      let printed = c.in_ok-print_task.ensures.prints.text h at text (told-some d v (g.W.Workspace.seen c.args.site.now).equations h text asked told) in
      subst (λ (t : List ℕ). Hands (g.K.Sink.written c.args.out.now) (g.K.Sink.written c.pass_on.new.out) t c.pass_on.new.lines.report.text c.pass_on.result)
      (ap (λ (x : Bounded). x.text) printed) c.pass_on.ensures.hands;
  long = no-task c.args.accepted.now.grammar c.args.view.now (g.W.Workspace.seen c.args.site.now) c.pass_on.result c.pass_on.ensures.no_line;
}
