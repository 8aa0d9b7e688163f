use Rattle.std.proofs.Common.{◌+◌, ◌∙◌, sym, ap, arith}
use Rattle.std.proofs.lemmas.List.Sums.{prefix_len-le-length}
use Rattle.aw_spelling.specs.Spelling.{is_name_byte}
use Rattle.aw_spelling.proofs.ByteRuns.{part_of_block, whole_block}
use Rattle.aw_spelling.proofs.name.name_len.Goals as goal

pub loop-len-preserved : goal.loop-len-preserved
loop-len-preserved c =
    let l = c.loop-len in
    let bs = c.args.bytes.now in
    let more = whole_block is_name_byte bs l.len 16 c.name_lanes-run.result (omega arith) c.name_lanes-run.ensures c.if-run-lt-LANES.false in
    record { within = omega arith; rest = omega (arith, more, l.invariant.rest) }

pub returns-then-run-lt-LANES-clause-value : goal.returns-then-run-lt-LANES-clause-value
returns-then-run-lt-LANES-clause-value c =
    let l = c.loop-len in
    let bs = c.args.bytes.now in
    let part = part_of_block is_name_byte bs l.len 16 c.name_lanes-run.result (omega arith) c.name_lanes-run.ensures c.if-run-lt-LANES.true in
    ap (λ n. l.len + n) (sym part) ∙ l.invariant.rest

pub returns-clause-within : goal.returns-clause-within
returns-clause-within c =
    let most = prefix_len-le-length is_name_byte c.args.bytes.now in
    omega (arith, most, c.name_end.ensures, c.loop-len.invariant.rest)
