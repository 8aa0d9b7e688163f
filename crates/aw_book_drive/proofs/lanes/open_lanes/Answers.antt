use Rattle.std.specs.Prelude.{slice_get}
use Rattle.std.proofs.Common.{List, [], ◌∷◌, length, sym, ap, ◌∙◌, length-append, arith}
use Rattle.aw_book_drive.specs.declared.lanes.Lane.{Lane}
use Rattle.aw_book_drive.proofs.Opening.{others-more, each-more, all-fresh}
use Rattle.aw_book_drive.proofs.lanes.open_lanes.Goals as goal

pub loop-role-preserved : goal.loop-role-preserved
loop-role-preserved g c =
    let i = c.loop-role.invariant in
    let gives = g.S.EventSource.gives in
    let firsts = c.args.sources.now in
    let lanes = c.loop-role.lanes.items in
    let fresh : Lane = record { next = c.in_ok-next.next; count = 0 } in
    let more = length-append lanes (fresh ∷ []) in
    let all = ap length c.in_ok-add_lane.ensures in
    record {
      many = c.read_on.ensures.many ∙ i.many;
      within = omega (arith, c.loop-role-test.true);
      count = omega (arith, more, all, i.count);
      told = c.in_ok-next.ensures.told ∙ i.told;
      others = others-more gives firsts c.loop-role.sources c.read_on.new.sources lanes c.loop-role.role c.in_ok-next.next c.loop-role-test.true i.many i.count c.in_ok-next.ensures.reads i.others;
      each = λ r s source lane m a b d.
          each-more gives firsts c.loop-role.sources c.read_on.new.sources lanes c.loop-role.role c.in_ok-next.next c.loop-role-test.true i.many i.count c.in_ok-next.ensures.reads i.others i.each
          r s source lane m a b (ap (λ (ls : List Lane). slice_get ls r) (sym c.in_ok-add_lane.ensures) ∙ d);
    }

pub returns-clause-lanes : goal.returns-clause-lanes
returns-clause-lanes g c =
    let i = c.loop-role.invariant in
    all-fresh g.S.EventSource.gives c.args.sources.now c.loop-role.sources c.loop-role.lanes.items c.loop-role.role (omega (arith, c.loop-role-test.false)) i.within i.many i.count i.each
