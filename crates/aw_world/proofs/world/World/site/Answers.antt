use Rattle.std.proofs.Common.{◌<◌, false, length, ◌∙◌, sym, arith, refl}
use Rattle.std.proofs.lemmas.Option.{slice_get_read}
use Rattle.aw_law_sites.specs.Sites.{empty_site}
use Rattle.aw_law_sites.specs.Worlds as V
use Rattle.aw_world.proofs.Pairings.{map_at}
use Rattle.aw_world.proofs.world.World.site.Goals as goal

pub returns-clause-shows : goal.returns-clause-shows
returns-clause-shows g c = λ v S.
    let w = c.args.self.now in
    let i = c.from.result in
    let l : i < length w.sites.items = omega (arith, c.from.ensures, c.requires, w.placed.count) in
    sym (map_at (λ x. g.W.Workspace.seen x) (empty_site false i) w.sites.items i c.index-site.result.now l c.index-site.ensures)
    ∙ (λ k. V.site_at (S k) (c.from.ensures k))

pub returns-clause-role : goal.returns-clause-role
returns-clause-role g c =
    let w = c.args.self.now in
    let i = c.from.result in
    let l : i < length w.sites.items = omega (arith, c.from.ensures, c.requires, w.placed.count) in
    w.placed.role i c.index-site.result.now (slice_get_read w.sites.items (length w.sites.items) i c.index-site.result.now refl l c.index-site.ensures) ∙ c.from.ensures

pub returns-clause-grammar : goal.returns-clause-grammar
returns-clause-grammar g c =
    let w = c.args.self.now in
    let i = c.from.result in
    let l : i < length w.sites.items = omega (arith, c.from.ensures, c.requires, w.placed.count) in
    w.placed.grammar i c.index-site.result.now (slice_get_read w.sites.items (length w.sites.items) i c.index-site.result.now refl l c.index-site.ensures)
