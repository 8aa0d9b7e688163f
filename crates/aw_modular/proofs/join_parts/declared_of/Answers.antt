use Rattle.std.proofs.Common.{refl}
use Rattle.aw_modular.proofs.join_parts.declared_of.Goals as goal

pub returns : goal.returns
returns c = refl
