use Rattle.std.proofs.Common.{refl, inl, arith}
use Rattle.aw_law_journals.specs.Circles.{waits, further}
use Rattle.aw_law_journals.specs.Worked.{asks_first, calls_second}
use Rattle.aw_law_journals.proofs.worked.worked_circle.Goals as goal

pub returns-clause-sound : goal.returns-clause-sound
returns-clause-sound c = ((refl, ((_, refl), (refl, tt))), ((_, refl), tt))

pub returns-clause-refused : goal.returns-clause-refused
returns-clause-refused c = (refl, refl)

pub returns-clause-causes : goal.returns-clause-causes
returns-clause-causes c = ((λ i. i, inl refl), (λ i. i, inl refl))

pub returns-clause-round : goal.returns-clause-round
returns-clause-round c =
    further
    (record { message = asks_first; next = refl; from = refl; place = 0; later = omega arith; within = omega arith; sends = (λ i. i, inl refl) })
    (waits (record { message = calls_second; next = refl; from = refl; place = 2; later = omega arith; within = omega arith; sends = (λ i. i, inl refl) }))

pub returns-clause-joins : goal.returns-clause-joins
returns-clause-joins c = (refl, refl)
