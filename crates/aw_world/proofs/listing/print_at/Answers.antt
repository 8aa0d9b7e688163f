use Rattle.std.proofs.Common.{◌<◌, false, arith, length, refl, subst, sym}
use Rattle.std.proofs.lemmas.Option.{slice_get_read}
use Rattle.aw_law_sites.specs.Sites.{Site, empty_site}
use Rattle.aw_law_sites.proofs.SideBySide.{Pairs-length as pairs_length}
use Rattle.aw_world.specs.PrintedRows.{PrintsRow}
use Rattle.aw_world.proofs.Pairings.{map_at}
use Rattle.aw_world.proofs.Printers.{pairs_got, pairs_renewed, place_within, keep_on}
use Rattle.aw_world.proofs.RowsAt.{stood_within}
use Rattle.aw_world.proofs.listing.print_at.Goals as goal

pub index_mut-own-requires : goal.index_mut-own-requires
index_mut-own-requires g c =
    let within = stood_within g.W.Workspace c.args.sites.now c.args.spot.now c.requires.there in
    omega (
      arith,
      within,
      pairs_length (λ x p. g.W.Workspace.keeps x c.args.accepted.now.grammar c.args.report.now p) c.args.sites.now
          c.args.printers.now.items c.requires.ready,
      c.args.printers.now.ok.0,
    )

pub print_row-requires-clause-grammar : goal.print_row-requires-clause-grammar
print_row-requires-clause-grammar g c =
    let at = c.args.spot.now.site in
    let within = stood_within g.W.Workspace c.args.sites.now c.args.spot.now c.requires.there in
    c.requires.placed.grammar at c.index-sites-spot.result (slice_get_read c.args.sites.now (length c.args.sites.now) at c.index-sites-spot.result refl within c.index-sites-spot.is)

pub print_row-requires-clause-place : goal.print_row-requires-clause-place
print_row-requires-clause-place g c =
    let at = c.args.spot.now.site in
    let within = stood_within g.W.Workspace c.args.sites.now c.args.spot.now c.requires.there in
    place_within g.W.Workspace c.args.sites.now c.args.spot.now c.index-sites-spot.result
    (slice_get_read c.args.sites.now (length c.args.sites.now) at c.index-sites-spot.result refl within c.index-sites-spot.is) c.requires.there

pub print_row-requires-clause-ready : goal.print_row-requires-clause-ready
print_row-requires-clause-ready g c =
    let at = c.args.spot.now.site in
    let sites = c.args.sites.now in
    let printers = c.args.printers.now.items in
    let d = c.args.accepted.now.grammar in
    let within = stood_within g.W.Workspace sites c.args.spot.now c.requires.there in
    let both : at < length printers = omega (arith, within, pairs_length (λ x p. g.W.Workspace.keeps x d c.args.report.now p) sites printers c.requires.ready) in
    pairs_got (λ x p. g.W.Workspace.keeps x d c.args.report.now p) sites printers at c.index-sites-spot.result c.index_mut-own.result.now c.requires.ready
    (slice_get_read sites (length sites) at c.index-sites-spot.result refl within c.index-sites-spot.is)
    (slice_get_read printers (length printers) at c.index_mut-own.result.now refl both c.index_mut-own.ensures.value)

pub returns-clause-ready : goal.returns-clause-ready
returns-clause-ready g c =
    let at = c.args.spot.now.site in
    let sites = c.args.sites.now in
    let within = stood_within g.W.Workspace sites c.args.spot.now c.requires.there in
    let d = c.args.accepted.now.grammar in
    let grown = keep_on g.W.Workspace g.met.W.Workspace.keeps_on d c.args.report.now c.print_row.new.report c.print_row.ensures.grows sites c.args.printers.now.items c.requires.ready in
    pairs_renewed (λ x p. g.W.Workspace.keeps x d c.print_row.new.report p) sites c.args.printers.now.items at c.index-sites-spot.result c.print_row.new.printer grown
    (slice_get_read sites (length sites) at c.index-sites-spot.result refl within c.index-sites-spot.is) c.print_row.ensures.ready

pub returns-clause-prints : goal.returns-clause-prints
returns-clause-prints g c =
    let at = c.args.spot.now.site in
    subst (λ (s : Site). PrintsRow c.args.accepted.now.grammar s c.args.spot.now.place c.args.report.now c.print_row.new.report c.print_row.result)
    (sym (map_at (λ w. g.W.Workspace.seen w) (empty_site false at) c.args.sites.now at c.index-sites-spot.result
    (stood_within g.W.Workspace c.args.sites.now c.args.spot.now c.requires.there) c.index-sites-spot.is))
    c.print_row.ensures.prints
