-- What a refusal says of the waiting relation.
use Rattle.std.specs.Prelude.{Some}
use Rattle.aw_term.specs.Rules.{Grammar}
use Rattle.aw_accept.specs.Circular.{LeastFaultOver}
use Rattle.aw_wait.specs.Waiting.{WaitingRelation}
use Rattle.aw_wait.specs.declared.refused.WaitFault.{WaitFault}
use Rattle.aw_wait.specs.declared.refused.WaitFault.TheVariants.{Circle, NoMemory}

-- the least rule with a circle over the waiting relation, and its least occurrence on one
abbrev pub TellsWait : Grammar → WaitFault → Type 0
TellsWait g (Circle rule occ) = LeastFaultOver g (WaitingRelation g) (Some (record { rule = rule; occ = occ }))
TellsWait g NoMemory = Unit {0}
