use Rattle.aw_law_forged.proofs.Truth.{sent_is_valid, truth_is_taken_in}
use Rattle.aw_law_forged.proofs.laws.heard_laws.Goals as goal

pub returns-clause-valid : goal.returns-clause-valid
returns-clause-valid c = λ w g formed. sent_is_valid w g formed

pub returns-clause-taken : goal.returns-clause-taken
returns-clause-taken c = λ w g formed. truth_is_taken_in w g formed
