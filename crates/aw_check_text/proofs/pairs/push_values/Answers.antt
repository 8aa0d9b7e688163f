use Rattle.std.proofs.Common.{◌+◌, arith}
use Rattle.aw_check_text.specs.Told.{value_lines}
use Rattle.aw_check_text.specs.PairTests.{has_pair}
use Rattle.aw_check_text.proofs.Lines.{lines-next}
use Rattle.aw_check_text.proofs.pairs.push_values.Goals as goal

pub loop-i-preserved : goal.loop-i-preserved
loop-i-preserved c =
    lines-next (value_lines (has_pair c.args.io.now c.args.sort) c.args.name.now c.args.gives) 1 c.loop-i.i (c.loop-i.i + 1) _ _ _ (omega arith) c.loop-i.invariant c.in_ok-push_value.ensures
