-- One role alone.
use Rattle.std.proofs.Common.{◌≡◌, List, [], ◌∷◌, map, refl, sym, ap, ◌∙◌}
use Rattle.aw_term.specs.Rules.{Grammar}
use Rattle.aw_term.specs.Choices.{Choice}
use Rattle.aw_term.specs.Artifacts.{Words}
use Rattle.aw_term.specs.Runs.{plain_text}
use Rattle.aw_sched.specs.Events.{Chooses}
use Rattle.aw_law_sites.specs.Laws.{IsAccepted}
use Rattle.aw_law_worlds.proofs.OneRoles.{one_role_plain}
use Rattle.aw_replay.specs.ChoicesIn.{choices_in}
use Rattle.aw_run.specs.Laws.{TellsUndivided}

-- the choices among choices are all of them
choices_alone : (xs : List Choice) → choices_in (map Chooses xs) ≡ xs
choices_alone [] = refl
choices_alone (x ∷ xs) = ap (λ ys. x ∷ ys) (choices_alone xs)

pub told_alone : (w : Words) (g : Grammar) → IsAccepted w g → TellsUndivided w g
told_alone w g accepted one loads xs may = one_role_plain w g accepted one loads xs may ∙ ap (plain_text w g) (sym (choices_alone xs))
