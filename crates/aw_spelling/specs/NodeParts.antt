-- What the code takes off a node name, and what is still to be read.
use Rattle.std.specs.Prelude.{ℕ, List, [], ◌∷◌, Option, Some, None, option_map, option_and_then, option_copied, if◌then◌else◌}
use Rattle.aw_spelling.specs.declared.node_name.NodeStart.{NodeStart}
use Rattle.aw_spelling.specs.declared.node_name.StepPart.{StepPart}
use Rattle.aw_spelling.specs.Spelling.{is_name, start_of, step_of, steps_of, parts_behind}

-- two halves of which the first is a name
abbrev pub if_named : Option (List ℕ × List ℕ) → Option (List ℕ × List ℕ)
if_named o = option_and_then (λ halves. if is_name halves.0 then Some halves else None) o

-- the whole name, where this is its start
abbrev pub begins : NodeStart → Option (List ℕ × ℕ × List (List ℕ × ℕ))
begins n = option_map (λ trail. (n.start.now, n.case, trail)) (steps_of (parts_behind (option_copied n.steps)))

-- the start sort and the case that the first of these parts names
abbrev pub start_in : List (List ℕ) → Option (List ℕ × ℕ)
start_in [] = None
start_in (part ∷ steps) = start_of part

-- the rule and the child that the first of these parts names
abbrev pub step_in : List (List ℕ) → Option (List ℕ × ℕ)
step_in [] = None
step_in (part ∷ steps) = step_of part

-- the parts behind the first
abbrev pub behind_first : List (List ℕ) → List (List ℕ)
behind_first [] = []
behind_first (part ∷ steps) = steps

-- all steps, where this is the first
abbrev pub leads : StepPart → Option (List (List ℕ × ℕ))
leads s = option_map (λ trail. (s.rule.now, s.child) ∷ trail) (steps_of (parts_behind (option_copied s.more)))
