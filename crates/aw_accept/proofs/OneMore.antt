-- One more choice at the end of an undivided run.
use Rattle.std.proofs.Common.{◌≡◌, List, [], ◌∷◌, ◌++◌, Option, Some, None, refl, ap, ◌∙◌}
use Rattle.std.specs.Prelude.{option_and_then}
use Rattle.aw_term.specs.Rules.{Grammar}
use Rattle.aw_term.specs.Configs.{Config}
use Rattle.aw_term.specs.Choices.{Choice, outcome, taken, undivided}

alone : (g : Grammar) (o : Option Config) → option_and_then (λ z. undivided g z []) o ≡ o
alone g None = refl
alone g (Some z) = refl

later : (g : Grammar) (cs ds : List Choice) (d : Config) (whole o : Option Config) →
    ((z : Config) → undivided g z cs ≡ Some d → undivided g z ds ≡ whole) → option_and_then (λ z. undivided g z cs) o ≡ Some d →
    option_and_then (λ z. undivided g z ds) o ≡ whole
later g cs ds d whole None f e = absurd cc
later g cs ds d whole (Some z) f e = f z e

-- one more choice at the end
pub undivided_more : (g : Grammar) (c : Config) (cs : List Choice) (x : Choice) (d : Config) → undivided g c cs ≡ Some d → undivided g c (cs ++ x ∷ []) ≡ taken g d x (outcome g d x)
undivided_more g c [] x d e =
    let same : c ≡ d = cc in alone g (taken g c x (outcome g c x)) ∙ ap (λ z. taken g z x (outcome g z x)) same
undivided_more g c (y ∷ cs) x d e = later g cs (cs ++ x ∷ []) d _ (taken g c y (outcome g c y)) (λ z. undivided_more g z cs x d) e
