use Rattle.std.proofs.Common.{◌≡◌, ℕ, List, ◌++◌}
use Rattle.aw_accept.specs.Acyclic.{Pairs}
use Rattle.aw_book_join.specs.Handing.{HandsOn}
use Rattle.aw_book_join.specs.Lines.{IsReady, IsTold}
use Rattle.aw_book_join.proofs.Texts.{AreFront}
use Rattle.aw_book_join.proofs.lines.print_each.Given as goal

-- of whatever is printed, all in front of this place was handed on
abbrev pub invariant-loop-place : goal.invariant-loop-place
invariant-loop-place g l = record {
  ready : IsReady g.W.Workspace l.site l.accepted.grammar l.lines;
  counts : g.K.Sink.faults l.out ≡ g.K.Sink.faults l.initial.out;
  handed : (texts : List (List ℕ)) → Pairs (IsTold l.accepted.grammar l.view (g.W.Workspace.seen l.site).equations) (g.W.Workspace.seen l.site).held texts →
      (front : List ℕ) × AreFront texts l.place front × HandsOn (g.K.Sink.written l.initial.out) (g.K.Sink.written l.out) l.lines.report.text (l.initial.lines.report.text ++ front);
}
