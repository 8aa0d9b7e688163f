use Rattle.std.proofs.Common.{◌∙◌}
use Rattle.aw_store.proofs.SlotLemmas.{parts_more}
use Rattle.aw_store.specs.NamedRefs.{parts_at}
use Rattle.aw_store.proofs.slots.parts_of.Goals as goal

pub loop-k-preserved : goal.loop-k-preserved
loop-k-preserved g c =
    c.in_ok-push.ensures.items
    ∙ parts_more (parts_at (g.F.Facts.map c.args.f.now) (g.F.Facts.names c.args.f.now) c.args.slot) c.loop-k.refs.items c.loop-k.k c.in_ok-part_at.field-0 c.loop-k.invariant c.in_ok-part_at.ensures
