use Rattle.std.proofs.Common.{◌∙◌, ap, sym, Some}
use Rattle.aw_base.proofs.ValidHomes.{home_of_valid}
use Rattle.aw_base.proofs.homes.home_of_valid.Goals as goal

pub returns : goal.returns
returns c = home_of_valid c.args.g.now c.args.n.now c.requires ∙ ap Some (sym c.home_at.ensures)
