-- A choice is answered by what has arrived at its role: its own choices, and the messages that were delivered to it.
use Rattle.std.specs.Prelude.{◌≡◌, ℕ, Bool, List, ◌++◌}
use Rattle.aw_term.specs.Names.{Ref}
use Rattle.aw_term.specs.Rules.{Rule, Grammar}
use Rattle.aw_term.specs.Choices.{Choice, Start, Develop, Answer, Taken, Starts, Takes}
use Rattle.aw_term.specs.Artifacts.{Words}
use Rattle.aw_term.specs.Runs.{answer_line}
use Rattle.aw_choice.specs.Events.{Event, Chooses}
use Rattle.aw_law_sites.specs.Homes.{home}
use Rattle.aw_law_sites.specs.Sites.{Site, empty_site}
use Rattle.aw_law_sites.specs.Choosing.{outcome, answer_to, choose}
use Rattle.aw_law_sites.specs.Worlds.{empty_world, node_of}
use Rattle.aw_law_sites.specs.SiteEvents.{all_events, site_run}
use Rattle.aw_law_sites.specs.Outputs.{after_events, all_moves, event_lines}

-- the site that the choices of a role and the messages delivered to it make, and nothing else
abbrev pub arrived_at : Grammar → (loads : Bool) → List Event → ℕ → Site
arrived_at g loads es role = site_run g (empty_site loads role) (all_events g (empty_world g loads) role (all_moves g (empty_world g loads) es))

-- what it answers to a choice
abbrev pub answer_there : Grammar → (loads : Bool) → List Event → Choice → Answer Ref
answer_there g loads es c = answer_to (choose g (arrived_at g loads es (home g (node_of c))) c)

-- a start is enabled where its node is not held, and a choice of a rule where its guard is met
abbrev pub IsEnabled : Grammar → Site → Choice → Type 0
IsEnabled g s (Start st k) = outcome g s (Start st k) ≡ Starts
IsEnabled g s (Develop n r args) = (rule : Rule) × (bound : List Ref) × (outcome g s (Develop n r args) ≡ Takes rule bound)

-- Behind these events the choice is answered as that site of its home answers it, and taken exactly where it is enabled there.
pub record AnswersByArrivals (w : Words) (g : Grammar) (loads : Bool) (es : List Event) (c : Choice) : Type 0 where
  pub sent : List ℕ
  pub line : event_lines w g (after_events g (empty_world g loads) es) (Chooses c) ≡ answer_line w c (answer_there g loads es c) ++ sent
  pub taken : answer_there g loads es c ≡ Taken → IsEnabled g (arrived_at g loads es (home g (node_of c))) c
  pub enabled : IsEnabled g (arrived_at g loads es (home g (node_of c))) c → answer_there g loads es c ≡ Taken
