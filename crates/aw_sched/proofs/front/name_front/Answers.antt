use Rattle.std.proofs.Common.{◌∙◌, sym}
use Rattle.aw_sched.proofs.ByteFronts.{name_says, plain_word}
use Rattle.aw_sched.proofs.front.name_front.Goals as goal

pub is_plain_name-requires : goal.is_plain_name-requires
is_plain_name-requires c =
    let halves = c.split_at.ensures in
    plain_word c.args.bytes.now c.split_at.result.0.now c.name_len.result c.name_len.ensures.value halves.front halves.front_len

pub returns-then-is_at_end : goal.returns-then-is_at_end
returns-then-is_at_end c =
    let word = c.split_at.result.0.now in
    let rest = c.split_at.result.1.now in
    name_says c.args.bytes.now word rest c.split_at.ensures.by_index.0 (sym c.is_plain_name.ensures ∙ c.if-is_plain_name.true) (c.is_at_end.ensures c.if-is_at_end.true)
