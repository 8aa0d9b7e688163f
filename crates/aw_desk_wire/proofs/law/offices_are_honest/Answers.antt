use Rattle.aw_desk_wire.proofs.OfficeLemmas.{offices-honest}
use Rattle.aw_desk_wire.proofs.law.offices_are_honest.Goals as goal

pub returns : goal.returns
returns c r = offices-honest _ _ (λ o. o.site.space.accepted.now.grammar) (λ o. o.typed.now) _ (λ o p f x a. a) r
