use Rattle.aw_law_forged.proofs.OwnEquations.{own_equations_are_made}
use Rattle.aw_law_forged.proofs.Once.{says_once}
use Rattle.aw_law_forged.proofs.OwnWords.{sent_is_own_word}
use Rattle.aw_law_forged.proofs.laws.forged_laws.Goals as goal

pub returns-clause-own : goal.returns-clause-own
returns-clause-own c = λ g. own_equations_are_made g

pub returns-clause-sent : goal.returns-clause-sent
returns-clause-sent c = λ g. sent_is_own_word g

pub returns-clause-once : goal.returns-clause-once
returns-clause-once c = λ g. says_once g
