use Rattle.std.proofs.Common.{◌∙◌}
use Rattle.aw_base.proofs.ChildPlaces.{sort_behind_none, sort_behind_rule}
use Rattle.aw_base.proofs.homes.sort_behind.Goals as goal

pub returns-in-Some : goal.returns-in-Some
returns-in-Some c = c.unwrap_or.ensures ∙ sort_behind_rule c.args.g.now c.args.step.now c.in-Some.rule.now c.sort_of_child.result c.in-Some.ensures.value c.sort_of_child.ensures

pub returns-in-None : goal.returns-in-None
returns-in-None c = sort_behind_none c.args.g.now c.args.step.now c.in-None.ensures.value
