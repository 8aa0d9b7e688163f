use Rattle.aw_face.proofs.Pairs.{goes_last}
use Rattle.aw_face.proofs.uses.Uses.push.Goals as goal

pub returns-clause-ok : goal.returns-clause-ok
returns-clause-ok c = goes_last c.args.usage c.args.self.now c.self.inside.pairs.keys c.insert.new.self.keys c.self.view_is c.requires c.in_ok-insert.ensures.keys
