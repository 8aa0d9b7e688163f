-- What holds of the output of events.
use Rattle.std.specs.Prelude.{◌≡◌, ℕ, suc, Bool, true, List, [], ◌∷◌, ◌++◌, ◌+◌, ◌≤◌, map, length, take, Some, ◌⊎◌}
use Rattle.aw_list.specs.Members.{Member}
use Rattle.aw_term.specs.Trees.{Never}
use Rattle.aw_term.specs.Names.{Node, Ref, root}
use Rattle.aw_term.specs.Rules.{Ground, Rule, Grammar}
use Rattle.aw_term.specs.Configs.{Config}
use Rattle.aw_term.specs.Choices.{Choice, Start, Develop, Developed, Refused, Starts, Takes, undivided, answer}
use Rattle.aw_term.specs.Artifacts.{Words}
use Rattle.aw_term.specs.Runs.{artifacts, plain_text}
use Rattle.aw_term.specs.WellFormed.{Each}
use Rattle.aw_choice.specs.Events as E
use Rattle.aw_base.specs.ChoiceFits.{choice_ok}
use Rattle.aw_iograph.specs.Dependence.{IO}
use Rattle.aw_accept.specs.Acyclic.{IsAcyclic}
use Rattle.aw_law_sites.specs.Laws.{SameChoices}
use Rattle.aw_law_sites.specs.Homes.{home}
use Rattle.aw_law_sites.specs.Choosing.{outcome, answer_to, choose}
use Rattle.aw_law_sites.specs.Bounds.{bound_of}
use Rattle.aw_law_sites.specs.Worlds.{World, node_of, Chooses, site_at, empty_world, run, IsQuiet}
use Rattle.aw_law_sites.specs.Outputs.{MayStand, after_events, all_lines, all_moves, moment, output_of}
use Rattle.aw_law_worlds.specs.Arriving.{AnswersByArrivals}
use Rattle.aw_law_worlds.specs.Holding.{EquationsStay, NodesStay, HoldsConfig, MeetsNoCircle}

-- what these events do is what the choices and deliveries do that they are
abbrev pub EventsAreMoves : Grammar → Type 0
EventsAreMoves g = (w : World) (es : List E.Event) → run g w (all_moves g w es) ≡ after_events g w es

-- after these events, and at each moment on the way
pub record HeadlineHolds (w : Words) (g : Grammar) (loads : Bool) (es : List E.Event) : Type 0 where
  -- the choices taken have an undivided configuration, and it is acyclic
  pub acyclic : (n : ℕ) → (c : Config) × (undivided g [] (moment g loads es n).taken ≡ Some c) × IsAcyclic (IO g) c
  -- a rule that is enabled is so at the next moment, with the same bound references, or its node is developed
  pub enabled : (n a : ℕ) (node : Node) (r : ℕ) (args : List Ground) (rule : Rule) (bound : List Ref) →
      outcome g (site_at (moment g loads es n) a) (Develop node r args) ≡ Takes rule bound →
      (outcome g (site_at (moment g loads es (suc n)) a) (Develop node r args) ≡ Takes rule bound)
      ⊎ (outcome g (site_at (moment g loads es (suc n)) a) (Develop node r args) ≡ Refused Developed)
  -- a start that is enabled is so at the next moment, if it was not chosen
  pub started : (n s k : ℕ) →
      outcome g (site_at (moment g loads es n) (home g (root s k))) (Start s k) ≡ Starts →
      (Member (Chooses (Start s k)) (take (suc n) (all_moves g (empty_world g loads) es)) → Never) →
      outcome g (site_at (moment g loads es (suc n)) (home g (root s k))) (Start s k) ≡ Starts
  -- once every message was delivered, the artifacts are those of the same choices in any order that is allowed
  pub any_order : IsQuiet (after_events g (empty_world g loads) es) →
      (ds : List Choice) → SameChoices (after_events g (empty_world g loads) es).taken ds → (d : Config) → undivided g [] ds ≡ Some d →
      output_of w g loads es ≡ all_lines w g (empty_world g loads) es ++ artifacts w d
  -- wherever every message was delivered, the sites hold just that configuration, each node at its home
  pub merged : (n : ℕ) → IsQuiet (moment g loads es n) →
      (ds : List Choice) → SameChoices (moment g loads es n).taken ds → (d : Config) → undivided g [] ds ≡ Some d → HoldsConfig g (moment g loads es n) d
  -- and answer each choice as it does
  pub answers : (n : ℕ) → IsQuiet (moment g loads es n) → (d : Config) → undivided g [] (moment g loads es n).taken ≡ Some d → (x : Choice) →
      answer_to (choose g (site_at (moment g loads es n) (home g (node_of x))) x) ≡ answer g d x
  -- a choice is answered by its role's own choices and the messages delivered to it
  pub arrived : (before behind : List E.Event) (c : Choice) → es ≡ before ++ E.Chooses c ∷ behind → AnswersByArrivals w g loads before c
  -- what a site knows stays: its equations, each guard that is decided, with the same bound references, and its nodes
  pub stays : (n k a : ℕ) → EquationsStay (site_at (moment g loads es n) a).equations (site_at (moment g loads es (n + k)) a).equations
      × NodesStay (site_at (moment g loads es n) a).held (site_at (moment g loads es (n + k)) a).held
  -- nothing waits for itself
  pub no_circle : (n : ℕ) → MeetsNoCircle g (moment g loads es n)
  -- the messages are at most the bound of the choices taken
  pub bounded : (n : ℕ) → length (moment g loads es n).messages ≤ bound_of g (moment g loads es n).taken

-- it holds of all events that may stand in a schedule
abbrev pub OutputsHold : Words → Grammar → Type 0
OutputsHold w g = (loads : Bool) (es : List E.Event) → Each (MayStand g) es → HeadlineHolds w g loads es

-- one role alone writes of these choices what the undivided run writes of them
abbrev pub OneRoleIsPlain : Words → Grammar → Type 0
OneRoleIsPlain w g = g.roles ≡ 1 → (loads : Bool) (cs : List Choice) → Each (λ c. choice_ok g c ≡ true) cs →
    output_of w g loads (map E.Chooses cs) ≡ plain_text w g cs
