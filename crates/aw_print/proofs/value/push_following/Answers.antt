use Rattle.std.proofs.Common.{◌≡◌, ◌-◌, ◌<◌, suc, map, drop, length, ap, ◌∙◌, arith}
use Rattle.std.proofs.lemmas.List.{length_push, drop_all}
use Rattle.aw_store.specs.NamedRefs.{parts_at}
use Rattle.aw_print.specs.Drafts.{following, draft}
use Rattle.aw_print.specs.Stacks.{following_behind}
use Rattle.aw_print.specs.declared.stack.Piece.TheVariants.{Next}
use Rattle.aw_print.proofs.StackLemmas.{next_part, live_part, behind_first, notes_none, notes_push, notes_as}
use Rattle.aw_print.proofs.value.push_following.Goals as goal

pub loop-k-init : goal.loop-k-init
loop-k-init g c =
    let k = g.F.Facts.map c.args.f.now in
    let names = g.F.Facts.names c.args.f.now in
    let parts = parts_at k names c.args.at in
    record {
      some = c.requires.some;
      within = omega arith;
      notes = λ w. notes_none (record { words = w; equations = k; names = names }) (λ m. following (map (draft m w k) (drop c.args.n parts))) c.args.pieces.now.items
          (λ m. ap (λ rs. following (map (draft m w k) rs)) (drop_all c.args.n parts (omega (arith, c.requires.parts))));
      count = omega arith;
    }

pub loop-k-preserved : goal.loop-k-preserved
loop-k-preserved g c =
    let k = g.F.Facts.map c.args.f.now in
    let names = g.F.Facts.names c.args.f.now in
    let parts = parts_at k names c.args.at in
    let i = c.loop-k.k - 1 in
    let lt : i < length parts = omega (arith, c.requires.parts, c.loop-k.invariant.within) in
    let next : c.loop-k.k ≡ suc i = omega arith in
    record {
      some = omega arith;
      within = omega arith;
      notes = λ w.
          notes_push (record { words = w; equations = k; names = names }) (λ m. following (map (draft m w k) (drop c.loop-k.k parts)))
          (λ m. following (map (draft m w k) (drop i parts))) c.args.pieces.now.items c.loop-k.pieces.items _ (Next c.child.result)
          (c.loop-k.invariant.notes w) c.in_ok-push.ensures.items (live_part names parts c.child.result i lt c.child.ensures) tt
          (λ m. next_part m w k names parts c.child.result i c.loop-k.k lt next c.child.ensures);
      count = omega (arith, ap length c.in_ok-push.ensures.items, length_push c.loop-k.pieces.items (Next c.child.result), c.loop-k.invariant.count);
    }

pub returns-clause-notes : goal.returns-clause-notes
returns-clause-notes g c = λ w.
    let k = g.F.Facts.map c.args.f.now in
    let names = g.F.Facts.names c.args.f.now in
    let parts = parts_at k names c.args.at in
    let one : c.loop-k.k ≡ 1 = omega (arith, c.loop-k.invariant.some) in
    notes_as (record { words = w; equations = k; names = names }) (λ m. following (map (draft m w k) (drop c.loop-k.k parts)))
    (λ m. following_behind (draft m w k) parts) c.args.pieces.now.items c.loop-k.pieces.items
    (λ m. ap (λ i. following (map (draft m w k) (drop i parts))) one ∙ behind_first (draft m w k) parts (omega (arith, c.requires.parts, c.requires.some)))
    (c.loop-k.invariant.notes w)
