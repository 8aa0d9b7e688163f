-- A schedule of choices and deliveries behind the text of a specification, in which nodes send loads, as they always do.
use Rattle.std.specs.Prelude.{ℕ, Bool, true, false, List, [], ◌∷◌, ◌++◌, map, codes}
use Rattle.aw_term.specs.Artifacts.{Words}
use Rattle.aw_choice.specs.Events as E
use Rattle.aw_law_sites.specs.Worlds.{Move, Chooses, Delivers}
use Rattle.aw_sched_writer.specs.EventTexts.{event_line, events_text}

-- what a schedule asks for with this move
abbrev pub asked_by : Move → E.Event
asked_by (Chooses c) = E.Chooses c
asked_by (Delivers k) = E.Delivers k

-- the line of a move
abbrev pub move_line : Words → Move → List ℕ
move_line w e = event_line w (asked_by e)

-- `settle`, or nothing
abbrev pub settled_by : Bool → List E.Event
settled_by true = E.Settles ∷ []
settled_by false = []

-- these moves, and then the delivery of all messages where that is asked for
abbrev pub joined_events : List Move → (settled : Bool) → List E.Event
joined_events es settled = map asked_by es ++ settled_by settled

-- the text of a specification, and behind it these moves as a schedule with loads
abbrev pub joined_text : Words → (text : List ℕ) → List Move → (settled : Bool) → List ℕ
joined_text w text es settled = text ++ (codes "schedule 2\n" ++ events_text w (joined_events es settled))
