use Rattle.std.proofs.Common.{refl, inl, inr}
use Rattle.aw_law_sites.specs.WorkedChoices.{own_result, own_words}
use Rattle.aw_law_sites.specs.Worked.{clinic, clinic_words}
use Rattle.aw_law_worlds.proofs.ClinicAccepted.{clinic_accepted}
use Rattle.aw_law_worlds.proofs.Headlining.{headline_law}
use Rattle.aw_law_worlds.proofs.OneRoles.{one_role_plain}
use Rattle.aw_law_worlds.proofs.WorldLaws.{headline, artifacts_law}
use Rattle.aw_law_worlds.proofs.worked.worked_grammar.Goals as goal

pub returns-clause-clinic_accepted : goal.returns-clause-clinic_accepted
returns-clause-clinic_accepted c = clinic_accepted

pub returns-clause-clinic_merges : goal.returns-clause-clinic_merges
returns-clause-clinic_merges c = (headline clinic_words clinic clinic_accepted, artifacts_law clinic_words clinic clinic_accepted, headline_law clinic_words clinic clinic_accepted)

pub returns-clause-clinic_meets : goal.returns-clause-clinic_meets
returns-clause-clinic_meets c = (
  (refl, (refl, (refl, (tt, (tt, (refl, (tt, tt))))))),
  (refl, refl),
  (refl, refl),
  (
    (λ x m. elim m [ inl e ↦ inl e | inr n ↦ elim n [ inl e ↦ inr (inr (inr (inl e))) | inr o ↦ elim o [ inl e ↦ inr (inl e) | inr p ↦ elim p [ inl e ↦ inr (inr (inl e)) | inr q ↦ elim q [ ] ] ] ] ]),
    (λ x m. elim m [ inl e ↦ inl e | inr n ↦ elim n [ inl e ↦ inr (inr (inl e)) | inr o ↦ elim o [ inl e ↦ inr (inr (inr (inl e))) | inr p ↦ elim p [ inl e ↦ inr (inl e) | inr q ↦ elim q [ ] ] ] ] ]),
  ),
  refl,
)

pub returns-clause-one_role : goal.returns-clause-one_role
returns-clause-one_role c = (one_role_plain own_words own_result c.worked_choices.ensures.own_result_accepted, refl, refl)
