use Rattle.std.proofs.Common.{◌≡◌, true, length, ap, sym, ◌∙◌, subst}
use Rattle.std.specs.Prelude.{is_some}
use Rattle.std.proofs.lemmas.Bool.{both_ways}
use Rattle.aw_store.specs.Equations.{find}
use Rattle.std.proofs.lemmas.Option.{slice_get_within}
use Rattle.aw_store.specs.EquationView.{equation_of}
use Rattle.aw_cells.specs.Cells.{is_full}
use Rattle.aw_cells.specs.StoredBodies.{body_from, fits}
use Rattle.aw_cells.specs.TableView.{cells_of, map_of}
use Rattle.aw_cells.proofs.RowLemmas.{cell_at}
use Rattle.aw_cells.proofs.SoundLemmas.{slot_fits}
use Rattle.aw_cells.proofs.SlotLemmas.{no_body, body_found, adds_from, addable}
use Rattle.aw_cells.proofs.adding.add_at.Goals as goal

pub index-requires : goal.index-requires
index-requires c = c.requires.table.dense c.args.slot (slice_get_within _ _ _ c.requires.at)

pub index-requires-then-is_full : goal.index-requires-then-is_full
index-requires-then-is_full c = c.requires.table.dense c.args.slot (slice_get_within _ _ _ c.requires.at)

pub compare-requires-clause-fits : goal.compare-requires-clause-fits
compare-requires-clause-fits c =
    let t = c.args.t.now in
    let s = c.requires.table.sound in
    let d = c.requires.table.dense in
    let at = cell_at t.cells (length t.names.keys) c.args.slot _ d (slice_get_within _ _ _ c.requires.at) c.index-then-is_full.ensures in
    subst (λ n. fits (length n) c.index-then-is_full.result.now ≡ true) (sym c.as_slice.ensures.keys) (slot_fits t.names.keys (cells_of t) t.order.items c.args.slot _ s at)

pub compare-requires-clause-written : goal.compare-requires-clause-written
compare-requires-clause-written c =
    let t = c.args.t.now in
    let d = c.requires.table.dense in
    let within = slice_get_within _ _ _ c.requires.at in
    let seen = cell_at t.cells (length t.names.keys) c.args.slot _ d within c.index.ensures in
    let at = cell_at t.cells (length t.names.keys) c.args.slot _ d within c.index-then-is_full.ensures in
    sym (ap is_full at) ∙ ap is_full seen ∙ sym c.is_full.ensures ∙ c.if-is_full.true

pub returns-then-is_full-clause-added : goal.returns-then-is_full-clause-added
returns-then-is_full-clause-added c =
    let t = c.args.t.now in
    let s = c.requires.table.sound in
    let d = c.requires.table.dense in
    let at = cell_at t.cells (length t.names.keys) c.args.slot _ d (slice_get_within _ _ _ c.requires.at) c.index-then-is_full.ensures in
    let found = body_found t.names.keys (cells_of t) t.order.items c.args.slot c.args.e.left _ s c.requires.at at
    ∙ ap (λ n. body_from n c.index-then-is_full.result.now) (sym c.as_slice.ensures.keys) in
    adds_from c.compare.result (map_of t) c.args.e _ found c.compare.ensures.added

pub returns-then-is_full-clause-sure : goal.returns-then-is_full-clause-sure
returns-then-is_full-clause-sure c = λ w a.
    let t = c.args.t.now in
    let s = c.requires.table.sound in
    let d = c.requires.table.dense in
    let within = slice_get_within _ _ _ c.requires.at in
    let seen = cell_at t.cells (length t.names.keys) c.args.slot _ d within c.index.ensures in
    let at = cell_at t.cells (length t.names.keys) c.args.slot _ d within c.index-then-is_full.ensures in
    let written = sym (ap is_full at) ∙ ap is_full seen ∙ sym c.is_full.ensures ∙ c.if-is_full.true in
    let found = body_found t.names.keys (cells_of t) t.order.items c.args.slot c.args.e.left _ s c.requires.at at in
    let fit = slot_fits t.names.keys (cells_of t) t.order.items c.args.slot _ s at in
    c.compare.ensures.same (ap (λ n. body_from n c.index-then-is_full.result.now) c.as_slice.ensures.keys ∙ addable t.names.keys (map_of t) (equation_of c.args.e) _ fit written found a)

pub add_new-requires-clause-lacks : goal.add_new-requires-clause-lacks
add_new-requires-clause-lacks c =
    let t = c.args.t.now in
    let at = cell_at t.cells (length t.names.keys) c.args.slot _ c.requires.table.dense (slice_get_within _ _ _ c.requires.at) c.index.ensures in
    no_body t.names.keys (cells_of t) t.order.items c.args.slot c.args.e.left _ c.requires.table.sound c.requires.at at (sym c.is_full.ensures ∙ c.if-is_full.false)

pub returns-clause-added : goal.returns-clause-added
returns-clause-added c =
    let t = c.args.t.now in
    let at = cell_at t.cells (length t.names.keys) c.args.slot _ c.requires.table.dense (slice_get_within _ _ _ c.requires.at) c.index.ensures in
    (no_body t.names.keys (cells_of t) t.order.items c.args.slot c.args.e.left _ c.requires.table.sound c.requires.at at (sym c.is_full.ensures ∙ c.if-is_full.false), c.in_ok-add_new.ensures.ok)

pub returns-clause-kept : goal.returns-clause-kept
returns-clause-kept c = λ w.
    let t = c.args.t.now in
    let at = cell_at t.cells (length t.names.keys) c.args.slot _ c.requires.table.dense (slice_get_within _ _ _ c.requires.at) c.index.ensures in
    let lacks = no_body t.names.keys (cells_of t) t.order.items c.args.slot c.args.e.left _ c.requires.table.sound c.requires.at at (sym c.is_full.ensures ∙ c.if-is_full.false) in
    absurd (both_ways (is_some (find (map_of t) c.args.e.left)) (ap is_some lacks) w)

pub returns-in_err-add_new-clause-kept : goal.returns-in_err-add_new-clause-kept
returns-in_err-add_new-clause-kept c = λ w.
    let t = c.args.t.now in
    let at = cell_at t.cells (length t.names.keys) c.args.slot _ c.requires.table.dense (slice_get_within _ _ _ c.requires.at) c.index.ensures in
    let lacks = no_body t.names.keys (cells_of t) t.order.items c.args.slot c.args.e.left _ c.requires.table.sound c.requires.at at (sym c.is_full.ensures ∙ c.if-is_full.false) in
    absurd (both_ways (is_some (find (map_of t) c.args.e.left)) (ap is_some lacks) w)
