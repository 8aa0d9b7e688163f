use Rattle.std.proofs.Common.{◌∙◌, sym, subst}
use Rattle.aw_law_sites.proofs.Guarding.{Final, guard_all-keeps}
use Rattle.aw_law_sites.proofs.Moving.{guard_all-moves}
use Rattle.aw_law_sites.proofs.laws.guard_laws.Goals as goal

pub returns-clause-yes : goal.returns-clause-yes
returns-clause-yes c k l within ps rs bound e = guard_all-keeps k l within 1 ps rs (subst (Final l) (sym e) tt) ∙ e

pub returns-clause-differs : goal.returns-clause-differs
returns-clause-differs c k l within ps rs path e = guard_all-keeps k l within 1 ps rs (subst (Final l) (sym e) tt) ∙ e

pub returns-clause-waits : goal.returns-clause-waits
returns-clause-waits c k l within ps rs r gone e = guard_all-keeps k l within 1 ps rs (subst (Final l) (sym e) gone) ∙ e

pub returns-clause-circle : goal.returns-clause-circle
returns-clause-circle c k l within ps rs r e = guard_all-keeps k l within 1 ps rs (subst (Final l) (sym e) tt) ∙ e

pub returns-clause-moves : goal.returns-clause-moves
returns-clause-moves c k l within ps rs r end on e = guard_all-moves k l within r end on 1 ps rs e
