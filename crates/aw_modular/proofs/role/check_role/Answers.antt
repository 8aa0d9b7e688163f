use Rattle.aw_modular.specs.PartViews.{part_of}
use Rattle.aw_modular.proofs.Yeses.{says_yes}
use Rattle.aw_modular.proofs.role.check_role.Goals as goal

pub kept-requires : goal.kept-requires
kept-requires c = let p = c.args.part.now in says_yes p.faces.offers c.args.declared.now p.role (part_of p) p.own c.requires.faces c.in_ok-judged.ensures.no_circle c.in_ok-judged.ensures.no_excess

pub returns-clause-says : goal.returns-clause-says
returns-clause-says c = let p = c.args.part.now in says_yes p.faces.offers c.args.declared.now p.role (part_of p) p.own c.requires.faces
    c.in_ok-judged.ensures.no_circle c.in_ok-judged.ensures.no_excess
