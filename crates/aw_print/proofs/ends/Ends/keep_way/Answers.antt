use Rattle.std.proofs.Common.{subst}
use Rattle.std.specs.Prelude.{IfSome}
use Rattle.aw_print.specs.Ends.{NamesNext}
use Rattle.aw_print.proofs.EndsLemmas.{own_end, next_live, end_behind}
use Rattle.aw_print.proofs.ends.Ends.keep_way.Goals as goal

pub loop-i-init : goal.loop-i-init
loop-i-init g c = record {
  live = c.requires.live;
  ends = c.requires.ends;
  end = own_end (g.F.Facts.map c.args.f.now) (g.F.Facts.names c.args.f.now) c.args.slot c.args.end c.requires.end;
}

pub loop-i-preserved : goal.loop-i-preserved
loop-i-preserved g c =
    let k = g.F.Facts.map c.args.f.now in
    let names = g.F.Facts.names c.args.f.now in
    let named : NamesNext k names c.loop-i.at c.in-Some.next = subst (λ o. IfSome o (λ n. NamesNext k names c.loop-i.at n)) c.in-Some.is c.in_ok-next.ensures.next in
    record {
      live = next_live k names c.loop-i.at c.in-Some.next c.loop-i.invariant.live named;
      ends = c.in_ok-next.ensures.ends;
      end = end_behind k names c.loop-i.at c.in-Some.next c.args.end c.loop-i.invariant.live named c.loop-i.invariant.end;
    }
