use Rattle.std.proofs.Common.{◌++◌, ◌∷◌, [], length, take, ap, sym, ◌∙◌, arith}
use Rattle.std.proofs.lemmas.List.{take_more, length-append}
use Rattle.std.proofs.lemmas.Option.{slice_get_within}
use Rattle.aw_store.proofs.NameLemmas.{grows_more, is_named-grown, named_at, not_ok, only_at}
use Rattle.aw_cells.specs.StoredBodies.{refs_of, all_below}
use Rattle.aw_cells.specs.TableView.{names_of}
use Rattle.aw_cells.proofs.BodyLemmas.{refs_of-push, all_below-push, all_below-grown}
use Rattle.aw_cells.proofs.NameLemmas.{refs_of-grows, length-grows}
use Rattle.aw_cells.proofs.naming.name_parts.Goals as goal

pub returns-in_err-name_one-clause-named : goal.returns-in_err-name_one-clause-named
returns-in_err-name_one-clause-named c = λ w.
    let named = named_at (names_of c.args.t.now) c.args.refs.now c.loop-r.r-index c.r-item.result c.loop-r-test.true c.r-item.is w in
    absurd (not_ok _ _ c.in_err-name_one.was (c.name_one.ensures.named (is_named-grown _ _ _ c.loop-r.invariant.grows named)))

pub loop-r-preserved : goal.loop-r-preserved
loop-r-preserved c =
    let inv = c.loop-r.invariant in
    let old = names_of c.loop-r.t in
    let new = names_of c.name_one.new.t in
    let slots = c.loop-r.slots.items in
    let refs = c.args.refs.now in
    let r' = c.r-item.result in
    let slot = c.in_ok-name_one.field-0 in
    let grows = c.name_one.ensures.grows in
    let at = c.in_ok-name_one.ensures.slot in
    record {
      table = c.name_one.ensures.table;
      grows = grows_more _ _ _ inv.grows grows;
      only = only_at c.name_one.result (names_of c.args.t.now) old new refs c.loop-r.r-index r' c.loop-r-test.true c.r-item.is inv.only c.name_one.ensures.ok c.name_one.ensures.err;
      map = c.name_one.ensures.map ∙ inv.map;
      slots =
          ap (refs_of new) c.push.ensures.items ∙ refs_of-push new slots slot r' at
          ∙ ap (λ x. x ++ r' ∷ []) (refs_of-grows old new slots grows inv.below ∙ inv.slots)
          ∙ sym (take_more refs c.loop-r.r-index r' c.loop-r-test.true ∙ ap (λ x. take c.loop-r.r-index refs ++ x ∷ []) (sym c.r-item.is));
      below =
          ap (all_below (length new)) c.push.ensures.items
          ∙ all_below-push (length new) slots slot (all_below-grown (length old) (length new) slots (length-grows old new grows) inv.below) (slice_get_within new slot r' at);
      len = omega (arith, ap length c.push.ensures.items, length-append slots (slot ∷ []), inv.len);
    }

pub returns-in_err-name_one-clause-only : goal.returns-in_err-name_one-clause-only
returns-in_err-name_one-clause-only c =
    only_at c.name_one.result (names_of c.args.t.now) (names_of c.loop-r.t) (names_of c.name_one.new.t) c.args.refs.now c.loop-r.r-index
    c.r-item.result c.loop-r-test.true c.r-item.is c.loop-r.invariant.only c.name_one.ensures.ok c.name_one.ensures.err
