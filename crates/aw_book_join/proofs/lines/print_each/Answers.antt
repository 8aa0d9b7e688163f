use Rattle.std.proofs.Common.{◌≡◌, ℕ, ◌+◌, List, [], ◌++◌, length, drop, refl, sym, ap, ◌∙◌, append_assoc, append-nil, arith, rules}
use Rattle.std.specs.List.{concat}
use Rattle.std.proofs.lemmas.List.{length-map}
use Rattle.aw_list.proofs.Everyday.{get_within as some-at}
use Rattle.aw_law_sites.proofs.SideBySide.{Pairs-length as pairs_length}
use Rattle.aw_node_list.specs.HeldView.{held_of}
use Rattle.aw_world.proofs.Lines.{drop_all}
use Rattle.aw_book_join.specs.Lines.{IsTold, TellsTask}
use Rattle.aw_book_join.proofs.Handing.{hands-as, hands-more}
use Rattle.aw_book_join.proofs.Results.{hands-stop, tells-passed}
use Rattle.aw_book_join.proofs.Texts.{front-more, front-all}
use Rattle.aw_book_join.proofs.lines.print_each.Goals as goal

-- one text behind what is in front of it
regroup : (before front text rest whole : List ℕ) → whole ≡ (front ++ text) ++ rest → before ++ whole ≡ ((before ++ front) ++ text) ++ rest
regroup before front text rest whole e =
    ap (λ (t : List ℕ). before ++ t) e ∙ (sym (append_assoc before (front ++ text) rest) ∙ ap (λ (t : List ℕ). t ++ rest) (sym (append_assoc before front text)))

pub returns-in_err-print_next-clause-hands : goal.returns-in_err-print_next-clause-hands
returns-in_err-print_next-clause-hands g c = record {
  text = λ texts p.
      let d = c.args.accepted.now.grammar in
      let w = c.args.site.now in
      let before = c.args.lines.now.report.text in
      let i = c.loop-place.place in
      let many = ap length (g.met.W.Workspace.holds w) ∙ length-map (g.W.Workspace.its_nodes w) (held_of (g.W.Workspace.its_grammar w)) in
      let nodes = ap length c.nodes.ensures in
      let (h, at) = some-at (g.W.Workspace.seen c.args.site.now).held i (omega (arith, many, nodes)) in
      let (front, f, handed) = c.loop-place.invariant.handed texts p in
      let (text, told, k) = front-more (IsTold d c.args.view.now (g.W.Workspace.seen c.args.site.now).equations) (g.W.Workspace.seen c.args.site.now).held texts i (i + 1) h front p at refl f in
      hands-stop (g.K.Sink.written c.args.out.now) (g.K.Sink.written c.loop-place.out) (g.K.Sink.written c.print_next.new.out) c.loop-place.lines.report.text (before ++ front) text (concat (drop
      (i + 1) texts)) (before ++ concat texts)
      c.print_next.new.lines.report.text c.print_next.new.lines.report.text c.print_next.result c.from_residual.result _ (regroup before front text (concat (drop (i + 1) texts))
      (concat texts) k.whole)
      c.in_err-print_next.was (search rules) handed (c.print_next.ensures.hands.text h at text told);
  long = tells-passed (TellsTask c.args.accepted.now.grammar c.args.view.now (g.W.Workspace.seen c.args.site.now)) c.print_next.result c.from_residual.result _ c.in_err-print_next.was (search rules)
      c.in_err-print_next.ensures.hands.long;
}

pub loop-place-preserved : goal.loop-place-preserved
loop-place-preserved g c = record {
  ready = c.in_ok-print_next.ensures.ready;
  counts = c.in_ok-print_next.ensures.counts ∙ c.loop-place.invariant.counts;
  handed = λ texts p.
      let d = c.args.accepted.now.grammar in
      let w = c.args.site.now in
      let before = c.args.lines.now.report.text in
      let i = c.loop-place.place in
      let many = ap length (g.met.W.Workspace.holds w) ∙ length-map (g.W.Workspace.its_nodes w) (held_of (g.W.Workspace.its_grammar w)) in
      let nodes = ap length c.nodes.ensures in
      let (h, at) = some-at (g.W.Workspace.seen c.args.site.now).held i (omega (arith, many, nodes)) in
      let (front, f, handed) = c.loop-place.invariant.handed texts p in
      let (text, told, k) = front-more (IsTold d c.args.view.now (g.W.Workspace.seen c.args.site.now).equations) (g.W.Workspace.seen c.args.site.now).held texts i (i + 1) h front p at refl f in
      let one = c.in_ok-print_next.ensures.hands.text h at text told in (
        front ++ text,
        k,
        hands-as (g.K.Sink.written c.args.out.now) (g.K.Sink.written c.print_next.new.out) c.print_next.new.lines.report.text ((before ++ front) ++ text) (before ++ (front ++ text))
            (append_assoc before front text)
            (hands-more (g.K.Sink.written c.args.out.now) (g.K.Sink.written c.loop-place.out)
            (g.K.Sink.written c.print_next.new.out) c.loop-place.lines.report.text c.print_next.new.lines.report.text (before ++ front) text handed one),
      );
}

pub returns-clause-hands : goal.returns-clause-hands
returns-clause-hands g c = record {
  text = λ texts p.
      let w = c.args.site.now in
      let before = c.args.lines.now.report.text in
      let i = c.loop-place.place in
      let many = ap length (g.met.W.Workspace.holds w) ∙ length-map (g.W.Workspace.its_nodes w) (held_of (g.W.Workspace.its_grammar w)) in
      let nodes = ap length c.nodes.ensures in
      let paired = pairs_length (IsTold c.args.accepted.now.grammar c.args.view.now (g.W.Workspace.seen c.args.site.now).equations) (g.W.Workspace.seen c.args.site.now).held texts p in
      let (front, f, handed) = c.loop-place.invariant.handed texts p in
      let none : drop i texts ≡ [] = drop_all texts i (omega (arith, many, nodes, paired, c.loop-place-test.false)) in
      hands-as (g.K.Sink.written c.args.out.now) (g.K.Sink.written c.loop-place.out) c.loop-place.lines.report.text (before ++ front) (before ++ concat texts)
      (ap (λ (t : List ℕ). before ++ t) (sym (front-all texts i front none f ∙ append-nil front))) handed;
  long = tt;
}
