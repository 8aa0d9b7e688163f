use Rattle.std.proofs.Common.{◌++◌, arith, length-append, take, length-take}
use Rattle.aw_out.proofs.Known.{Gives-more}
use Rattle.aw_out.proofs.whole.read_all.Goals as goal

pub returns-then-limit-len-clause-too_long : goal.returns-then-limit-len-clause-too_long
returns-then-limit-len-clause-too_long g c = λ _. (
  c.loop-n.text ++ take c.in-Read.n c.read.new.buf,
  simp (length-append, length-take) (omega (arith, c.in-Read.ensures.count.1)),
  Gives-more _ _ _ _ _ c.loop-n.invariant.given c.in-Read.ensures.bytes,
)

pub returns-in_err-push_bytes-in-Read-clause-otherwise :
    goal.returns-in_err-push_bytes-in-Read-clause-otherwise
returns-in_err-push_bytes-in-Read-clause-otherwise g c = λ _. (
  c.loop-n.text ++ take c.in-Read.n c.read.new.buf,
  simp (length-append, length-take) (omega (arith, c.in-Read.ensures.count.1)),
  Gives-more _ _ _ _ _ c.loop-n.invariant.given c.in-Read.ensures.bytes,
)
