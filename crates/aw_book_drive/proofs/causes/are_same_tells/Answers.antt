use Rattle.std.proofs.lemmas.Bool.Decides.{Decides-at}
use Rattle.aw_book_drive.proofs.Exact.{equation_exact}
use Rattle.aw_book_drive.proofs.causes.are_same_tells.Goals as goal

pub returns : goal.returns
returns c = Decides-at c.eq.result _ c.eq.ensures (equation_exact c.args.equation.now c.args.other.now)
