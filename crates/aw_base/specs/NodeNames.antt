-- Which node a text names.
use Rattle.std.specs.Prelude.{ℕ, ◌+◌, Bool, false, List, [], ◌∷◌, length, Option, None, Some, slice_get, nat_lt, if◌then◌else◌, option_map, option_and_then}
use Rattle.aw_grammar.specs.Named.{number_named}
use Rattle.aw_spelling.specs.Spelling.{parts_of_name}
use Rattle.aw_term.specs.Names.{Step, Node}
use Rattle.aw_term.specs.Rules.{Sort, Grammar, sort_of_step}
use Rattle.aw_term.specs.Artifacts.{Words}
use Rattle.aw_name.specs.Limits.{most_steps}

-- A node; or the first that holds: the text is no node name, it has too many steps, a name in it is not declared or no start sort,
-- or a step, counted from 0, does not fit.
pub data NodeRead : Type 0 where
  Named : (node : Node) → NodeRead
  NoNodeName : NodeRead
  TooLong : NodeRead
  NotDeclared : NodeRead
  NoFit : (at : ℕ) → NodeRead

-- the steps, where each rule is declared
abbrev pub steps_named : Words → List (List ℕ × ℕ) → Option (List Step)
steps_named w [] = Some []
steps_named w (s ∷ ss) = option_and_then (λ r. option_map (λ steps. record { rule = r; child = s.1 } ∷ steps) (steps_named w ss)) (number_named w.rules s.0)

-- this step does not fit, or what is found behind it
abbrev pub misfit_or : ℕ → (ℕ → Option ℕ) → Option ℕ → Option ℕ
misfit_or at later None = Some at
misfit_or at later (Some t) = later t

-- the first step that does not fit, where the steps from this sort on are counted from `at`
abbrev pub first_misfit : Grammar → ℕ → ℕ → List Step → Option ℕ
first_misfit g at s [] = None
first_misfit g at s (step ∷ steps) = misfit_or at (λ t. first_misfit g (at + 1) t steps) (sort_of_step g s step)

-- the sort is declared, and it is a start sort
abbrev pub is_start : Option Sort → Bool
is_start None = false
is_start (Some s) = s.start

-- the node, where this is the first step of it that does not fit, or each fits
abbrev pub fitted : Node → Option ℕ → NodeRead
fitted n None = Named n
fitted n (Some at) = NoFit at

-- what is read with this start sort, this case and these steps, where their rules are declared
abbrev pub with_steps : Grammar → ℕ → ℕ → Option (List Step) → NodeRead
with_steps g s case None = NotDeclared
with_steps g s case (Some steps) = fitted (record { start = s; case = case; steps = steps }) (first_misfit g 0 s steps)

-- what is read with this start sort, where its name is declared, this case and the steps as they are spelled
abbrev pub with_start : Words → Grammar → ℕ → List (List ℕ × ℕ) → Option ℕ → NodeRead
with_start w g case steps None = NotDeclared
with_start w g case steps (Some s) = if is_start (slice_get g.sorts s) then with_steps g s case (steps_named w steps) else NotDeclared

-- what is read where these are the parts of the name, or the text is no node name
abbrev pub with_parts : Words → Grammar → Option (List ℕ × ℕ × List (List ℕ × ℕ)) → NodeRead
with_parts w g None = NoNodeName
with_parts w g (Some parts) = if nat_lt most_steps (length parts.2) then TooLong else with_start w g parts.1 parts.2 (number_named w.sorts parts.0)

-- which node a text names, or the first reason why it names none
abbrev pub node_read : Words → Grammar → List ℕ → NodeRead
node_read w g text = with_parts w g (parts_of_name text)

-- the node that was read, where one was
abbrev pub node_in : NodeRead → Option Node
node_in (Named n) = Some n
node_in NoNodeName = None
node_in TooLong = None
node_in NotDeclared = None
node_in (NoFit at) = None

-- the node, where the text is the valid name of one
abbrev pub node_named : Words → Grammar → List ℕ → Option Node
node_named w g text = node_in (node_read w g text)
