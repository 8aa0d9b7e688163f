use Rattle.aw_modular.specs.PartViews.{part_of}
use Rattle.aw_check_text.proofs.Findings.{yes_found}
use Rattle.aw_check_text.proofs.roles.find.Goals as goal

pub returns-in-Ok : goal.returns-in-Ok
returns-in-Ok c = yes_found c.args.part.now.faces.offers c.args.declared.now c.args.part.now.role (part_of c.args.part.now) c.in-Ok.ensures.says
