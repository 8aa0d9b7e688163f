use Rattle.std.proofs.Common.{◌∙◌}
use Rattle.aw_store.proofs.NameLemmas.{grows_more}
use Rattle.aw_store.proofs.SlotLemmas.{slots_more, all_slots}
use Rattle.aw_store.proofs.slots.intern_all.Goals as goal

pub loop-r-preserved : goal.loop-r-preserved
loop-r-preserved g c =
    let ns = g.F.Facts.names c.loop-r.f in
    let ms = g.F.Facts.names c.intern.new.self in
    let inv = c.loop-r.invariant in
    record {
      map = c.intern.ensures.map ∙ inv.map;
      names = grows_more _ ns ms inv.names c.intern.ensures.names;
      slots = slots_more ns ms c.loop-r.slots.items c.push.new.self.items c.args.refs.now c.loop-r.r-index c.in_ok-intern.field-0 c.r-item.result
          c.intern.ensures.names inv.slots c.in_ok-intern.ensures.slot c.in_ok-push.ensures.items c.loop-r-test.true c.r-item.is;
    }

pub returns-clause-named : goal.returns-clause-named
returns-clause-named g c = all_slots _ _ c.args.refs.now c.loop-r.r-index c.loop-r-test.false c.loop-r.invariant.slots
