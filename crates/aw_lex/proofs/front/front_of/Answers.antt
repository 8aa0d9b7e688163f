use Rattle.std.proofs.Common.{sym, subst, length}
use Rattle.aw_lex.specs.Tokens.{Fits}
use Rattle.aw_lex.proofs.Fronts.{front_is_sound}
use Rattle.aw_lex.proofs.front.front_of.Goals as goal

pub returns-clause-fits : goal.returns-clause-fits
returns-clause-fits c = let bs = c.args.bytes.now in subst (λ f. Fits f (length bs)) (sym c.read_front.ensures) (front_is_sound bs).0
