-- How the events of a schedule are written, a line for each.
use Rattle.std.specs.Prelude.{ℕ, List, [], ◌∷◌, ◌++◌, map, flat_map, codes}
use Rattle.std.specs.Fmt.{decimal}
use Rattle.aw_term.specs.Rules.{Ground, get}
use Rattle.aw_term.specs.Choices.{Choice, Start, Develop}
use Rattle.aw_term.specs.Artifacts.{Words, listed, ground_text}
use Rattle.aw_term.specs.Runs.{choice_text}
use Rattle.aw_choice.specs.Events.{Event, Chooses, Delivers, Settles, Lists}

-- the arguments that a user enters with a choice
abbrev pub entered : Choice → List Ground
entered (Start sort case) = []
entered (Develop node rule args) = args

-- nothing, or ` {"Ada", 7}`
abbrev pub args_text : Words → List Ground → List ℕ
args_text w [] = []
args_text w (t ∷ ts) = codes " {" ++ (listed (map (ground_text w) (t ∷ ts)) ++ codes "}")

-- `start visit 1`, `choose visit#1 admit {"Ada"}`
abbrev pub asked_text : Words → Choice → List ℕ
asked_text w c = choice_text w c ++ args_text w (entered c)

-- an event, without a line feed: a choice, `deliver 3`, `settle`, `list lab`
abbrev pub event_text : Words → Event → List ℕ
event_text w (Chooses c) = asked_text w c
event_text w (Delivers k) = codes "deliver " ++ decimal k
event_text w Settles = codes "settle"
event_text w (Lists role) = codes "list " ++ get [] w.roles role

-- the line of an event
abbrev pub event_line : Words → Event → List ℕ
event_line w e = event_text w e ++ codes "\n"

-- the lines of some events
abbrev pub events_text : Words → List Event → List ℕ
events_text w es = flat_map (event_line w) es
