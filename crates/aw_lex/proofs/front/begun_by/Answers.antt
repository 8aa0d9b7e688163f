-- The table is held against the definition at each of the 256 bytes, by computing.
use Rattle.std.proofs.Common.{true, eqb, get_or, refl, arith}
use Rattle.std.proofs.lemmas.Bool.{agree_below_at, eqb-true}
use Rattle.aw_lex.specs.declared.front.TheConstants.{FIRST_BYTES}
use Rattle.aw_lex.specs.Tokens.{begun_by}
use Rattle.aw_lex.proofs.front.begun_by.Goals as goal

pub returns : goal.returns
returns c =
    let b = c.args.byte in
    eqb-true (get_or FIRST_BYTES b 0) (begun_by b) (agree_below_at (λ k. eqb (get_or FIRST_BYTES k 0) (begun_by k)) (λ k. true) 256 b refl (omega arith))
