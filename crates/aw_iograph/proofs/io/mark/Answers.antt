use Rattle.std.proofs.Common.{◌≡◌, get_or, false}
use Rattle.aw_iograph.proofs.Marking.{grown_set}
use Rattle.aw_iograph.proofs.io.mark.Goals as goal

pub returns-clause-grown : goal.returns-clause-grown
returns-clause-grown c =
    let off : get_or c.args.marks.now.items c.args.at false ≡ false = cc in
    grown_set c.args.marks.now.items c.args.at c.requires off
