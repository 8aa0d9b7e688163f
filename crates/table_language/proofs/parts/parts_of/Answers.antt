use Rattle.std.proofs.Common.{subst}
use Rattle.table_language.specs.Parts.{IfSomePart}
use Rattle.table_language.proofs.Gathering.{first_more}
use Rattle.table_language.proofs.parts.parts_of.Goals as goal

pub loop-role-preserved : goal.loop-role-preserved
loop-role-preserved c =
    let is = subst (IfSomePart c.args.g.now c.loop-role.role) c.in-Some.is c.in_ok-yes.ensures in
    first_more c.args.g.now c.loop-role.role c.loop-role.parts c.push.new.self c.in-Some.yes c.loop-role.invariant is c.in_ok-push-in-Some.ensures.ok
