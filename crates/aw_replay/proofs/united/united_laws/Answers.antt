use Rattle.aw_replay.proofs.Circles.{dependence_same, circles_same}
use Rattle.aw_replay.proofs.ChoicesFit.{choice_ok_same}
use Rattle.aw_replay.proofs.UnitedRuns.{plain_text_same}
use Rattle.aw_replay.proofs.WellFormeds.{stays_well_formed}
use Rattle.aw_replay.proofs.united.united_laws.Goals as goal

pub returns-clause-formed : goal.returns-clause-formed
returns-clause-formed c w g f = stays_well_formed w g f

pub returns-clause-choices : goal.returns-clause-choices
returns-clause-choices c g x = choice_ok_same g x

pub returns-clause-dependence : goal.returns-clause-dependence
returns-clause-dependence c g s i j = dependence_same g s i j

pub returns-clause-circles : goal.returns-clause-circles
returns-clause-circles c g = circles_same g

pub returns-clause-plain : goal.returns-clause-plain
returns-clause-plain c w g xs = plain_text_same w g xs
