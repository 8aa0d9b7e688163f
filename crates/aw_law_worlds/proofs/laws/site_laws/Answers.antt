use Rattle.aw_law_worlds.proofs.Growing.{site_stays}
use Rattle.aw_law_worlds.proofs.Folding.{site_is_fold}
use Rattle.aw_law_worlds.proofs.Refusing.{refusals_law}
use Rattle.aw_law_worlds.proofs.laws.site_laws.Goals as goal

pub returns-clause-stays : goal.returns-clause-stays
returns-clause-stays c g = site_stays g

pub returns-clause-fold : goal.returns-clause-fold
returns-clause-fold c g = site_is_fold g

pub returns-clause-refusals : goal.returns-clause-refusals
returns-clause-refusals c g = refusals_law g
