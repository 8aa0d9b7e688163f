use Rattle.std.proofs.lemmas.Option.{slice_get-get_or}
use Rattle.aw_cells.proofs.BodyLemmas.{all_below-at}
use Rattle.aw_cells.proofs.ReadLemmas.{are_at-longer}
use Rattle.aw_cells.proofs.reading.are_refs.Goals as goal

pub returns-then-slots-refs : goal.returns-then-slots-refs
returns-then-slots-refs c = are_at-longer c.args.names.now c.args.slots.now c.args.refs.now c.if-slots-refs.true

pub is_ref_at-requires : goal.is_ref_at-requires
is_ref_at-requires c = all_below-at _ c.args.slots.now c.loop-i.i _ c.requires (slice_get-get_or c.args.slots.now c.loop-i.i 0 c.loop-i-test.true)
