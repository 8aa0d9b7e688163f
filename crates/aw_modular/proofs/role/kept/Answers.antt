use Rattle.aw_modular.proofs.Yeses.{says_copy}
use Rattle.aw_modular.proofs.role.kept.Goals as goal

pub invariant_of-result : goal.invariant_of-result
invariant_of-result c = record {
  says = ∣ says_copy c.args.part.now c.in_ok-copy.copy c.args.declared.now c.in_ok-told.told c.in_ok-copy.ensures c.in_ok-told.ensures c.requires ∣₁;
}
