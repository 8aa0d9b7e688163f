use Rattle.std.proofs.Common.{◌<◌}
use Rattle.aw_base.specs.declared.declared.Triple.{Triple}
use Rattle.aw_term.specs.Trees.{Never}
use Rattle.aw_iograph.specs.Pairs.{mark_of}
use Rattle.aw_modular.specs.Exceeding.{IsLoose}
use Rattle.aw_modular.proofs.excess.first_excess.Given as goal

abbrev pub invariant-loop-place : goal.invariant-loop-place
invariant-loop-place l = (t : Triple) → IsLoose l.part l.all l.found t → mark_of t.sort t.i t.j < l.place → Never
