use Rattle.std.proofs.Common.{◌<◌, ◌++◌, ◌∷◌, [], length, refl, ap, ◌∙◌, arith}
use Rattle.std.specs.Prelude.{option_and_then}
use Rattle.std.specs.List.{slice_set}
use Rattle.slab.specs.Slab.{with_value}
use Rattle.slab.proofs.SlabLemmas.{Updates-with_value}
use Rattle.aw_list.proofs.Everyday.{set-here as slice_get-written}
use Rattle.aw_cells.specs.Cells.{map_in}
use Rattle.aw_cells.specs.StoredBodies.{body_from}
use Rattle.aw_cells.specs.TableView.{cells_of}
use Rattle.aw_cells.proofs.MapLemmas.{map-push, map-apart}
use Rattle.aw_cells.proofs.RowLemmas.{row-set, dense-set}
use Rattle.aw_cells.proofs.SoundLemmas.{order-room, sound-written, sound-same}
use Rattle.aw_cells.proofs.adding.write.Goals as goal

pub index_mut-requires : goal.index_mut-requires
index_mut-requires c =
    let t = c.args.t.now in
    let l = c.requires.within in
    c.requires.table.dense c.args.slot (omega (arith, l, c.requires.table.sound.as_many))

pub push_reserved-requires : goal.push_reserved-requires
push_reserved-requires c =
    let t = c.args.t.now in
    omega (
      arith,
      order-room (cells_of t) t.order.items c.args.slot c.requires.table.sound.counted c.requires.within c.requires.empty,
      t.order.ok.0,
      c.requires.table.room,
      c.requires.table.sound.as_many,
    )

pub returns-clause-table : goal.returns-clause-table
returns-clause-table c =
    let t = c.args.t.now in
    let n = length t.names.keys in
    let d = c.requires.table.dense in
    let l : c.args.slot < n = omega (arith, c.requires.within, c.requires.table.sound.as_many) in
    let up = Updates-with_value t.cells c.args.slot c.args.stored (d c.args.slot l) in
    record {
      dense = dense-set t.cells (with_value t.cells c.args.slot c.args.stored) n c.args.slot c.args.stored up d;
      sound = sound-same _ _ _ _ _ _ refl (row-set t.cells (with_value t.cells c.args.slot c.args.stored) n c.args.slot c.args.stored up d l)
          c.push_reserved.ensures.items (sound-written t.names.keys (cells_of t) t.order.items c.args.slot c.args.stored c.requires.table.sound
          c.requires.within c.requires.empty c.requires.fits c.requires.written);
      room = omega (arith, c.push_reserved.ensures.capacity, c.requires.table.room);
      numbered = c.requires.table.numbered;
    }

pub returns-clause-map : goal.returns-clause-map
returns-clause-map c = λ e f g.
    let t = c.args.t.now in
    let ns = t.names.keys in
    let cs = cells_of t in
    let order = t.order.items in
    let slot = c.args.slot in
    let stored = c.args.stored in
    let d = c.requires.table.dense in
    let l : slot < length ns = omega (arith, c.requires.within, c.requires.table.sound.as_many) in
    let up = Updates-with_value t.cells slot stored (d slot l) in
    let cells = row-set t.cells (with_value t.cells slot stored) (length ns) slot stored up d l in
    (λ i. map_in ns (cells i) (c.push_reserved.ensures.items i))
    ∙ map-push ns (slice_set cs slot stored) order slot e f (ap (option_and_then (body_from ns)) (slice_get-written cs slot stored c.requires.within) ∙ g)
    ∙ ap (λ k. k ++ e ∷ []) (map-apart ns cs order slot stored (c.requires.table.sound.ordered slot ∙ c.requires.empty))
