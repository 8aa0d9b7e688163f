use Rattle.std.proofs.Common.{◌<◌, length, map, arith}
use Rattle.aw_store.specs.NamedRefs.{parts_at}
use Rattle.aw_print.specs.Drafts.{listed, draft}
use Rattle.aw_print.specs.Stacks.{following_behind}
use Rattle.aw_print.specs.declared.stack.Piece.TheVariants.{First}
use Rattle.aw_print.proofs.StackLemmas.{live_part, all_parts, notes_push}
use Rattle.aw_print.proofs.value.push_parts.Goals as goal

pub returns-clause-notes : goal.returns-clause-notes
returns-clause-notes g c = λ w.
    let k = g.F.Facts.map c.args.f.now in
    let names = g.F.Facts.names c.args.f.now in
    let parts = parts_at k names c.args.at in
    let lt : 0 < length parts = omega (arith, c.requires.parts, c.requires.some) in
    notes_push (record { words = w; equations = k; names = names }) (λ m. following_behind (draft m w k) parts)
    (λ m. listed (map (draft m w k) parts)) c.args.pieces.now.items c.push_following.new.pieces.items _ (First c.child.result)
    (c.in_ok-push_following.ensures.notes w) c.in_ok-push.ensures.items (live_part names parts c.child.result 0 lt c.child.ensures) tt
    (λ m. all_parts m w k names parts c.child.result lt c.child.ensures)
