use Rattle.std.proofs.Common.{arith}
use Rattle.std.proofs.lemmas.Grind.{common_steps}
use Rattle.aw_subs.proofs.EntryLemmas.{entry_derived}
use Rattle.aw_name.specs.SameRefs.{ref_same}
use Rattle.aw_subs.proofs.subs.admit.Goals as goal

pub returns-clause-ok : goal.returns-clause-ok
returns-clause-ok c = λ q. grind (arith, common_steps, entry_derived, ref_same)
