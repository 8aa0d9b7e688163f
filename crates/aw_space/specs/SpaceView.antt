-- A space of the program as a plain one.
use Rattle.std.specs.Prelude.{ℕ, List, map}
use Rattle.aw_term.specs.Rules.{Grammar}
use Rattle.aw_term.specs.Choices as Q
use Rattle.aw_choice.specs.declared.choice.Choice.{Choice}
use Rattle.aw_choice.specs.ChoiceView.{choice_of}
use Rattle.aw_store.specs.Equations.{Map}
use Rattle.aw_node_list.specs.declared.held.Held.{Held}
use Rattle.aw_node_list.specs.HeldView.{all_of}
use Rattle.aw_space.specs.Costs.{choice_cost}
use Rattle.aw_space.specs.Spaces.{Space}

-- the space of these nodes, choices and equations
abbrev pub space_of : Grammar → List Held → List Choice → Map → Space
space_of g hs cs k = record { held = all_of g hs; choices = map choice_of cs; equations = k }

-- what a choice costs at these nodes, choices and equations
abbrev pub choice_cost_in : Grammar → ℕ → List Held → List Choice → Map → Q.Choice → ℕ
choice_cost_in g role hs cs k c = choice_cost g role (space_of g hs cs k) c
