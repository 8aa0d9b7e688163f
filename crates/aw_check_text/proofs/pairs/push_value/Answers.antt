use Rattle.std.proofs.Common.{◌+◌, arith}
use Rattle.aw_check_text.specs.Told.{pair_lines}
use Rattle.aw_check_text.specs.PairTests.{has_pair}
use Rattle.aw_check_text.proofs.Lines.{lines-next, lines-all}
use Rattle.aw_check_text.proofs.pairs.push_value.Goals as goal

pub loop-j-preserved : goal.loop-j-preserved
loop-j-preserved c =
    lines-next (pair_lines (has_pair c.args.io.now c.args.sort) c.args.name.now c.args.i) 1 c.loop-j.j (c.loop-j.j + 1) _ _ _ (omega arith) c.loop-j.invariant c.in_ok-push_pair.ensures

pub returns : goal.returns
returns c = lines-all _ _ c.loop-j.j c.args.gives _ _ (omega arith) c.loop-j.invariant
