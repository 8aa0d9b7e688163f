use Rattle.std.proofs.Common.{arith, rules}
use Rattle.aw_out.proofs.Known.{Gets-more}
use Rattle.aw_out.proofs.whole.write_all.Goals as goal

pub loop-done-preserved : goal.loop-done-preserved
loop-done-preserved g c = record {
  in_range = omega (arith, c.split_at.ensures.back_len, c.in-Took.ensures.count.1);
  written = Gets-more _ _ _ _ _ _ c.loop-done.invariant.written (rw c.split_at.ensures.back at c.in-Took.ensures.bytes);
  kept = search rules;
  untouched = λ none. absurd (omega (arith, none, c.in-Took.ensures.count.0));
}
