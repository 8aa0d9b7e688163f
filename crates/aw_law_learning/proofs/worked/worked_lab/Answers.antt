use Rattle.std.proofs.Common.{refl, inl, inr}
use Rattle.aw_term.specs.Names.{part}
use Rattle.aw_law_sites.specs.Worked.{clinic, visit}
use Rattle.aw_law_learning.specs.Learning.{IsLedTo, inherited, further}
use Rattle.aw_law_learning.specs.Worked.{lab}
use Rattle.aw_law_learning.proofs.worked.worked_lab.Goals as goal

sample : IsLedTo clinic lab (part visit 2)
sample = inherited _ (inl refl) (inl refl)

pub returns-clause-led : goal.returns-clause-led
returns-clause-led c = (sample, further _ sample (inl refl) (inl refl))

pub returns-clause-forged : goal.returns-clause-forged
returns-clause-forged c = (refl, refl)

pub returns-clause-called : goal.returns-clause-called
returns-clause-called c = (refl, refl, inr (inr (_, inl refl)), refl, refl)
