use Rattle.std.proofs.Common.{rules, arith, ◌∙◌, ap}
use Rattle.aw_journal.specs.Format.{u64_in, u64_bytes}
use Rattle.aw_journal.proofs.Bytes.{u64_bytes-u64_in}
use Rattle.aw_journal.proofs.scan.number_in.Goals as goal

pub returns-clause-value : goal.returns-clause-value
unfolding u64_in
returns-clause-value c = search rules

pub returns-clause-bytes : goal.returns-clause-bytes
returns-clause-bytes c = ap u64_bytes (returns-clause-value c) ∙ u64_bytes-u64_in c.args.long.now c.requires (λ i. omega (arith, c.type_inv.long i))
