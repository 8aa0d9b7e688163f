use Rattle.std.proofs.Common.{◌+◌}
use Rattle.aw_grammar.specs.Written.{written_of}
use Rattle.aw_grammar.specs.Terms.{symbols_in}
use Rattle.aw_grammar.proofs.Emptying.{symbols_open, rank}
use Rattle.aw_grammar.proofs.raw.RawTerm.drop.Given as goal

abbrev pub decreases-loop-self : goal.decreases-loop-self
decreases-loop-self l = rank (symbols_in (written_of l.self) + symbols_open l.open) (symbols_in (written_of l.self))
