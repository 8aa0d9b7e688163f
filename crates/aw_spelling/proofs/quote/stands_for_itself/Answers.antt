-- The table is held against the definition at each of the 256 bytes, by computing.
use Rattle.std.proofs.Common.{not, nat_eq, get_or, refl, arith}
use Rattle.std.proofs.lemmas.Bool.{agree_below_at}
use Rattle.aw_spelling.specs.declared.quote.TheConstants.{PLAIN_BYTES}
use Rattle.aw_spelling.specs.Spelling.{stands_for_itself}
use Rattle.aw_spelling.proofs.quote.stands_for_itself.Goals as goal

pub returns : goal.returns
returns c = agree_below_at (λ b. not (nat_eq (get_or PLAIN_BYTES b 0) 44)) stands_for_itself 256 c.args.byte refl (omega arith)
