-- What settling leaves.
use Rattle.std.specs.Prelude.{◌≡◌, Bool, List, ◌∷◌, ◌++◌}
use Rattle.aw_term.specs.Rules.{Grammar}
use Rattle.aw_choice.specs.Events.{Event, Settles}
use Rattle.aw_law_sites.specs.Bounds.{settled}
use Rattle.aw_law_sites.specs.Outputs.{after_events}
use Rattle.aw_law_sites.specs.Worlds.{IsQuiet, empty_world}

-- behind each settling among these events no message is undelivered
abbrev pub SettlingEnds : Grammar → Bool → List Event → Type 0
SettlingEnds g loads es =
    (before later : List Event) → es ≡ before ++ Settles ∷ later → IsQuiet (settled g (after_events g (empty_world g loads) before))
