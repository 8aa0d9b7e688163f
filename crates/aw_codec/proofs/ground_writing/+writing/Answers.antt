use Rattle.std.proofs.Common.{◌++◌, sym, ap, subst, ◌∙◌, arith}
use Rattle.std.proofs.Transfers.{starts_with_trans}
use Rattle.std.proofs.lemmas.List.{take_all}
use Rattle.std.specs.List.{flat_map}
use Rattle.std.proofs.lemmas.List.Folds.{flat_map-map}
use Rattle.aw_term.specs.Views.{ground_of}
use Rattle.aw_codec.specs.Grounds.{spelled_ground}
use Rattle.aw_codec.specs.Ranges.{HeadsInRange, GroundSized}
use Rattle.aw_codec.proofs.Adding.{one_more, each_at, each_more_seen}
use Rattle.aw_list.proofs.Fronts.{behind, in_both}
use Rattle.aw_codec.proofs.GroundWriting.{con_added, con_sized}
use Rattle.aw_codec.proofs.ground_writing.+writing.Goals as goal

pub add_ground-returns-in_ok-add_byte-in-Con-2-clause-ok : goal.add_ground-returns-in_ok-add_byte-in-Con-2-clause-ok
add_ground-returns-in_ok-add_byte-in-Con-2-clause-ok t c =
    con_added c.add_each.result c.args.ground.now c.in-Con.con c.in-Con.parts c.as_slice.result.now c.len.result c.count_of.result c.args.text.now
    c.add_byte.new.text c.add_u16.new.text c.add_byte-in-Con.new.text c.add_each.new.text
    c.in-Con.is c.as_slice.ensures c.len.ensures c.count_of.ensures c.in_ok-add_byte-in-Con.ensures.ok c.in_ok-add_u16-in-Con.ensures.ok c.in_ok-add_byte-in-Con-2.ensures.ok c.add_each.ensures.ok

pub add_ground-returns-in_ok-add_byte-in-Con-2-clause-sized : goal.add_ground-returns-in_ok-add_byte-in-Con-2-clause-sized
add_ground-returns-in_ok-add_byte-in-Con-2-clause-sized t c =
    con_sized c.add_each.result c.args.ground.now c.in-Con.con c.in-Con.parts c.as_slice.result.now c.in-Con.is c.as_slice.ensures (omega arith) c.add_each.ensures.sized

pub add_ground-returns-in_ok-add_byte-in-Con-2-clause-kept : goal.add_ground-returns-in_ok-add_byte-in-Con-2-clause-kept
add_ground-returns-in_ok-add_byte-in-Con-2-clause-kept t c =
    let new = c.add_each.new.text in
    behind c.args.text.now _ c.add_byte.new.text new c.in_ok-add_byte-in-Con.ensures.ok
    (behind c.add_byte.new.text _ c.add_u16.new.text new c.in_ok-add_u16-in-Con.ensures.ok
    (behind c.add_u16.new.text _ c.add_byte-in-Con.new.text new c.in_ok-add_byte-in-Con-2.ensures.ok c.add_each.ensures.kept))

pub add_ground-returns-in_ok-add_byte-in-Text-clause-kept : goal.add_ground-returns-in_ok-add_byte-in-Text-clause-kept
add_ground-returns-in_ok-add_byte-in-Text-clause-kept t c =
    behind c.args.text.now _ c.add_byte-in-Text.new.text c.add_text.new.text c.in_ok-add_byte-in-Text.ensures.ok
    (in_both c.add_text.result c.add_byte-in-Text.new.text _ c.add_text.new.text c.add_text.ensures.ok c.add_text.ensures.err)

pub add_each-loop-ground-preserved : goal.add_each-loop-ground-preserved
add_each-loop-ground-preserved t c = record {
  added = λ h.
      one_more (λ g. spelled_ground (ground_of g)) c.args.grounds.now c.loop-ground.ground-index c.ground-item.result c.args.text.now
      c.loop-ground.text c.add_ground.new.text c.loop-ground-test.true c.ground-item.is (c.loop-ground.invariant.added h)
      (c.in_ok-add_ground.ensures.ok (subst (λ y. HeadsInRange (ground_of y)) (sym c.ground-item.is)
      (each_at HeadsInRange ground_of c.args.grounds.now c.loop-ground.ground-index c.ground-item.result c.loop-ground-test.true h)));
  sized = each_more_seen GroundSized ground_of c.args.grounds.now c.loop-ground.ground-index c.ground-item.result c.loop-ground-test.true
      c.ground-item.is c.loop-ground.invariant.sized c.in_ok-add_ground.ensures.sized;
  kept = starts_with_trans c.add_ground.new.text c.loop-ground.text c.args.text.now c.in_ok-add_ground.ensures.kept c.loop-ground.invariant.kept;
}

pub add_each-returns-clause-ok : goal.add_each-returns-clause-ok
add_each-returns-clause-ok t c = λ h.
    c.loop-ground.invariant.added h ∙ ap (λ ys. c.args.text.now ++ flat_map (λ g. spelled_ground (ground_of g)) ys) (take_all c.loop-ground.ground-index c.args.grounds.now (omega arith))
    ∙ ap (λ u. c.args.text.now ++ u) (sym (flat_map-map spelled_ground ground_of c.args.grounds.now))
