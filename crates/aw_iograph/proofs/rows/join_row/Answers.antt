use Rattle.std.proofs.Common.{◌<◌, ◌^◌, length, arith}
use Rattle.std.proofs.lemmas.List.{length-set}
use Rattle.std.proofs.lemmas.Nat.{or_lt}
use Rattle.aw_iograph.proofs.Joining.{handed_on, joined_before, joined_only, joined_now, joined_kept, joined_less, joins_same, joins_grown}
use Rattle.aw_iograph.proofs.rows.join_row.Goals as goal

pub returns-then-joined-row : goal.returns-then-joined-row
returns-then-joined-row c =
    let lt : c.args.arc.from < length c.args.read.now.items = omega (arith, c.requires.from_in, c.requires.places) in
    joins_same c.args.rows.now.items c.args.read.now.items c.args.arc lt
    (joined_before c.args.rows.now.items c.args.arc.from c.args.arc.to c.index-row.result.now _ c.requires.to_in c.index-row.ensures
    (handed_on c.args.rows.now.items c.args.arc.from c.index.result.now c.own.result c.requires.from_in c.index.ensures c.own.ensures) c.if-joined-row.true)

pub returns : goal.returns
returns c =
    let few : c.index-row.result.now < 2 ^ 128 = omega arith in
    let small = or_lt 128 c.index.result.now c.own.result (omega arith) (omega arith) in
    let lt : c.args.arc.from < length c.args.read.now.items = omega (arith, c.requires.from_in, c.requires.places) in
    let handed = handed_on c.args.rows.now.items c.args.arc.from c.index.result.now c.own.result c.requires.from_in c.index.ensures c.own.ensures in
    joins_grown c.args.rows.now.items _ c.args.read.now.items c.args.arc _ lt (length-set _ _ _) c.index-2.ensures
    (joined_kept c.args.rows.now.items c.args.arc.from c.args.arc.to c.index-row.result.now _ c.requires.to_in c.index-row.ensures handed)
    (joined_less c.args.rows.now.items c.args.arc.from c.args.arc.to c.index-row.result.now _ c.requires.to_in c.index-row.ensures handed few small c.if-joined-row.false)
    (joined_now c.args.rows.now.items c.args.arc.from c.args.arc.to c.index-row.result.now _ c.requires.to_in c.index-row.ensures handed)
    (joined_only c.args.rows.now.items c.args.arc.from c.args.arc.to c.index-row.result.now _ c.requires.to_in c.index-row.ensures handed)
