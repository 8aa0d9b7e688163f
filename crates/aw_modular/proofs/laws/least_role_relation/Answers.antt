use Rattle.aw_modular.specs.Roles.{Declares}
use Rattle.aw_modular.proofs.RoleRelations.{role_least}
use Rattle.aw_modular.proofs.laws.least_role_relation.Goals as goal

pub returns : goal.returns
returns h c g role declared closed s i j x = role_least g role (Declares declared) h.R.Related.relates closed s i j x
