use Rattle.std.proofs.Common.{refl}
use Rattle.std.specs.Fmt.{digits}
use Rattle.aw_term.proofs.worked.worked_cases.Goals as goal

pub returns-clause-memo : goal.returns-clause-memo
unfolding digits
returns-clause-memo c = refl

pub returns-clause-memo_odd : goal.returns-clause-memo_odd
unfolding digits
returns-clause-memo_odd c = refl

pub returns-clause-hole_first : goal.returns-clause-hole_first
unfolding digits
returns-clause-hole_first c = refl

pub returns-clause-own_result : goal.returns-clause-own_result
unfolding digits
returns-clause-own_result c = refl

pub returns-clause-doubling : goal.returns-clause-doubling
unfolding digits
returns-clause-doubling c = refl
