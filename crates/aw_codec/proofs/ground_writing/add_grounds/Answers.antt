use Rattle.std.proofs.Common.{◌≡◌, ◌++◌, ◌∷◌, [], length, map, sym, ap, subst, ◌∙◌, arith}
use Rattle.std.specs.List.{flat_map}
use Rattle.std.proofs.lemmas.List.{length-map}
use Rattle.std.proofs.lemmas.Result.{on_ok_weaker}
use Rattle.aw_term.specs.Views.{ground_of}
use Rattle.aw_term.specs.WellFormed.{Each}
use Rattle.aw_term.proofs.Eaches.{each_map}
use Rattle.aw_codec.specs.Grounds.{spelled_ground}
use Rattle.aw_codec.specs.Ranges.{HeadsInRange, GroundInRange}
use Rattle.aw_list.proofs.Fronts.{behind, on_err_held}
use Rattle.aw_codec.proofs.Adding.{two}
use Rattle.aw_codec.proofs.ground_writing.add_grounds.Goals as goal

pub returns-clause-ok : goal.returns-clause-ok
returns-clause-ok c =
    let old = c.args.text.now in
    let ts = map ground_of c.args.grounds.now in
    let many : length ts ≡ length c.args.grounds.now = length-map c.args.grounds.now ground_of in
    let count : c.count_of.result ≡ length ts = c.count_of.ensures (omega (arith, c.requires.0)) ∙ c.len.ensures ∙ sym many in
    let range : Each HeadsInRange (map ground_of c.as_slice.result.now) =
    subst (λ gs. Each HeadsInRange (map ground_of gs)) (sym c.as_slice.ensures) (each_map (GroundInRange 32) HeadsInRange ts (λ t h. h.0) c.requires.2) in
    on_ok_weaker c.add_each.result
    (λ e. two old (length ts ∷ []) (flat_map spelled_ground ts) c.add_byte.new.text c.add_each.new.text (c.in_ok-add_byte.ensures.ok ∙ ap (λ n. old ++ n ∷ []) count)
    (e ∙ ap (λ gs. c.add_byte.new.text ++ flat_map spelled_ground (map ground_of gs)) c.as_slice.ensures))
    (c.add_each.ensures.ok range)

pub returns-clause-err : goal.returns-clause-err
returns-clause-err c =
    on_err_held c.add_each.result (behind c.args.text.now _ c.add_byte.new.text c.add_each.new.text c.in_ok-add_byte.ensures.ok c.add_each.ensures.kept)
