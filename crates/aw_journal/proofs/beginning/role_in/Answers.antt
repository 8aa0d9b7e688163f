use Rattle.std.specs.Int.{w16, from_be_bytes}
use Rattle.std.proofs.Common.{◌≡◌, rules, arith}
use Rattle.std.proofs.lemmas.Nat.{be_bytes_2}
use Rattle.aw_journal.specs.Format.{u16_bytes}
use Rattle.aw_journal.proofs.beginning.role_in.Goals as goal

pub returns : goal.returns
unfolding u16_bytes
returns c =
    let value : c.from_be_bytes.result ≡ from_be_bytes w16 c.args.bytes.now = search rules in
    be_bytes_2 c.args.bytes.now c.from_be_bytes.result c.requires (λ i. omega (arith, c.type_inv.bytes i)) value
