use Rattle.aw_site.proofs.ParentRoles.{home_before_rule, home_before_none}
use Rattle.aw_site.proofs.validity.home_before.Goals as goal

pub returns-in-Some : goal.returns-in-Some
returns-in-Some c = home_before_rule c.args.g.now c.args.step.now c.in-Some.rule.now c.role_of.result c.in-Some.ensures.value c.role_of.ensures

pub returns-in-None : goal.returns-in-None
returns-in-None c = home_before_none c.args.g.now c.args.step.now c.in-None.ensures.value
