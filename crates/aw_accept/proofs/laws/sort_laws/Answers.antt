use Rattle.std.proofs.Common.{[], refl}
use Rattle.aw_term.specs.Choices.{outcome}
use Rattle.aw_accept.proofs.SortsOfRows.{taken-sorts, undivided-sorts, no_rows-sorts}
use Rattle.aw_accept.proofs.laws.sort_laws.Goals as goal

pub returns-clause-keeps : goal.returns-clause-keeps
returns-clause-keeps c g before after x fits own e = taken-sorts g before x (outcome g before x) after fits own refl e

pub returns-clause-all : goal.returns-clause-all
returns-clause-all c g cs z fits e = undivided-sorts g [] cs z (no_rows-sorts g) fits e
