use Rattle.std.proofs.Common.{arith, ap}
use Rattle.aw_grammar.specs.declared.raw.RawTerm as raw
use Rattle.aw_grammar.proofs.TermLemmas.{symbols_apply}
use Rattle.aw_grammar.proofs.Emptying.{symbols_left, left_insert}
use Rattle.aw_grammar.proofs.raw.hang_rest.Goals as goal

pub returns : goal.returns
returns c = omega (
  arith,
  ap symbols_left c.in-Ok.ensures.items,
  left_insert c.args.parts.items (raw.Apply c.args.name c.from_vec.result),
  symbols_apply c.args.name c.from_vec.result,
  ap symbols_left c.from_vec.ensures,
)
