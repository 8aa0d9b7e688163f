use Rattle.std.proofs.Common.{inl, inr}
use Rattle.aw_grammar.proofs.SizeLemmas.{none_left, room_apply}
use Rattle.aw_grammar.proofs.terms.+room.Goals as goal
use Rattle.aw_grammar.proofs.terms.+room.Goals.{room_after-then-depth-eq0-via-then-depth-eq0, room_after-then-depth-eq0-via-else-depth-eq0+then-room-eq0}

pub room_after-returns-then-depth-eq0 : goal.room_after-returns-then-depth-eq0
room_after-returns-then-depth-eq0 t c = none_left c.args.term.now c.args.depth c.args.room
    (elim c.then-depth-eq0.branch [ room_after-then-depth-eq0-via-then-depth-eq0 w ↦ inl w.if-depth-eq0.true | room_after-then-depth-eq0-via-else-depth-eq0+then-room-eq0 w ↦ inr w.if-room-eq0.true ])

pub room_after-returns-in-Apply : goal.room_after-returns-in-Apply
room_after-returns-in-Apply t c =
    room_apply c.args.term.now c.in-Apply.field-0 c.in-Apply.parts c.in-Apply.is c.args.depth c.args.room c.room_after_all.result c.if-depth-eq0.false c.if-room-eq0.false c.room_after_all.ensures
