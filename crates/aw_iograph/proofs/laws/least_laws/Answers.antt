use Rattle.aw_iograph.proofs.Relations.{io_least, follows_held, follows_closed, follows_least}
use Rattle.aw_iograph.proofs.laws.least_laws.Goals as goal

pub returns-clause-least : goal.returns-clause-least
returns-clause-least h c g closed = io_least g h.R.Related.relates closed

pub returns-clause-seed_held : goal.returns-clause-seed_held
returns-clause-seed_held h c g = follows_held g h.S.Related.relates

pub returns-clause-seed_closed : goal.returns-clause-seed_closed
returns-clause-seed_closed h c g = follows_closed g h.S.Related.relates

pub returns-clause-seed_least : goal.returns-clause-seed_least
returns-clause-seed_least h c g held closed = follows_least g h.S.Related.relates h.R.Related.relates closed held
