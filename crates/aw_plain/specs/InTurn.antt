-- Choices in turn, refused ones too, and the undivided run of those that are taken.
use Rattle.std.specs.Prelude.{◌≡◌, List, [], ◌∷◌, Some, if◌then◌else◌}
use Rattle.aw_term.specs.Rules.{Grammar}
use Rattle.aw_term.specs.Configs.{Config}
use Rattle.aw_term.specs.Choices.{Choice, is_taken, answer, after, undivided}
use Rattle.aw_term.specs.Runs.{after_all}

-- those of the choices that are taken, one after the other
abbrev pub taken_among : Grammar → Config → List Choice → List Choice
taken_among g c [] = []
taken_among g c (x ∷ xs) = if is_taken (answer g c x) then x ∷ taken_among g (after g c x) xs else taken_among g (after g c x) xs

-- the choices that are taken make an undivided run, and it leads to where all the choices lead
abbrev pub RunsUndivided : Grammar → Type 0
RunsUndivided g = (c : Config) (xs : List Choice) → undivided g c (taken_among g c xs) ≡ Some (after_all g c xs)

-- the choices of an undivided run are all taken, and lead to where it leads
abbrev pub TakesUndivided : Grammar → Type 0
TakesUndivided g = (c d : Config) (xs : List Choice) → undivided g c xs ≡ Some d → (taken_among g c xs ≡ xs) × (after_all g c xs ≡ d)
