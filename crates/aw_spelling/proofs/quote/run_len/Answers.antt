use Rattle.std.proofs.Common.{◌+◌, ◌∙◌, sym, ap, arith}
use Rattle.std.proofs.lemmas.List.Sums.{prefix_len-le-length}
use Rattle.aw_spelling.specs.Spelling.{stands_for_itself}
use Rattle.aw_spelling.proofs.ByteRuns.{part_of_block, whole_block}
use Rattle.aw_spelling.proofs.Quotes.{run_prefix}
use Rattle.aw_spelling.proofs.quote.run_len.Goals as goal

pub loop-len-preserved : goal.loop-len-preserved
loop-len-preserved c =
    let l = c.loop-len in
    let bs = c.args.bytes.now in
    let more = whole_block stands_for_itself bs l.len 16 c.plain_lanes-run.result (omega arith) c.plain_lanes-run.ensures c.if-run-lt-LANES.false in
    record { within = omega arith; rest = omega (arith, more, l.invariant.rest) }

pub returns-then-run-lt-LANES-clause-value : goal.returns-then-run-lt-LANES-clause-value
returns-then-run-lt-LANES-clause-value c =
    let l = c.loop-len in
    let bs = c.args.bytes.now in
    let part = part_of_block stands_for_itself bs l.len 16 c.plain_lanes-run.result (omega arith) c.plain_lanes-run.ensures c.if-run-lt-LANES.true in
    ap (λ n. l.len + n) (sym part) ∙ l.invariant.rest ∙ sym (run_prefix c.args.bytes.now)

pub returns-clause-within : goal.returns-clause-within
returns-clause-within c =
    let most = prefix_len-le-length stands_for_itself c.args.bytes.now in
    omega (arith, most, c.run_end.ensures, c.loop-len.invariant.rest)

pub returns-clause-value : goal.returns-clause-value
returns-clause-value c = c.run_end.ensures ∙ c.loop-len.invariant.rest ∙ sym (run_prefix c.args.bytes.now)
