use Rattle.std.proofs.Common.{refl, inl, inr}
use Rattle.aw_term.specs.Choices.{Taken}
use Rattle.aw_law_nodes.proofs.worked.worked_nodes.Goals as goal

pub returns-clause-replies : goal.returns-clause-replies
returns-clause-replies c = refl

pub returns-clause-honest : goal.returns-clause-honest
returns-clause-honest c = (
  (Taken, refl),
  (
    (Taken, refl),
    (
      tt,
      (
        (refl, (0, λ e. absurd cc, inr (inl refl))),
        (
          (refl, (0, λ e. absurd cc, inl refl)),
          ((Taken, refl), (tt, ((refl, (1, λ e. absurd cc, inl refl)), ((refl, (0, λ e. absurd cc, inl refl)), (tt, tt))))),
        ),
      ),
    ),
  ),
)

pub returns-clause-one_world : goal.returns-clause-one_world
returns-clause-one_world c = (refl, (refl, (refl, (refl, (refl, (refl, (refl, tt)))))))
