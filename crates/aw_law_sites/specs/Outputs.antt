-- What is written for the events of a schedule, and the choices and deliveries that they are.
use Rattle.std.specs.Prelude.{◌≡◌, ℕ, zero, suc, Bool, true, List, [], ◌∷◌, ◌++◌, codes, Option, Some, None, take}
use Rattle.std.specs.Fmt.{decimal}
use Rattle.aw_term.specs.Rules.{Grammar}
use Rattle.aw_term.specs.Configs.{Config}
use Rattle.aw_term.specs.Choices.{undivided}
use Rattle.aw_term.specs.Artifacts.{Words}
use Rattle.aw_term.specs.Runs.{artifacts}
use Rattle.aw_choice.specs.Events.{Event, Chooses, Delivers, Settles, Lists}
use Rattle.aw_base.specs.ChoiceFits.{choice_ok}
use Rattle.aw_law_sites.specs.Worlds as V
use Rattle.aw_law_sites.specs.Worlds.{World, Move, step, deliver, undelivered, count_open, empty_world, run}
use Rattle.aw_law_sites.specs.Bounds.{bound_of, settled}
use Rattle.aw_law_sites.specs.Transcripts.{move_lines, settle_lines, list_lines}

-- a choice may be asked of the grammar, and any other event may come
abbrev pub MayStand : Grammar → Event → Type 0
MayStand g (Chooses c) = choice_ok g c ≡ true
MayStand g _ = Unit {0}

-- the world after one event; a worklist changes nothing
abbrev pub after_event : Grammar → World → Event → World
after_event g v (Chooses c) = (step g v (V.Chooses c)).world
after_event g v (Delivers k) = (step g v (V.Delivers k)).world
after_event g v Settles = settled g v
after_event g v (Lists role) = v

-- the world after these events in turn
abbrev pub after_events : Grammar → World → List Event → World
after_events g v [] = v
after_events g v (e ∷ es) = after_events g (after_event g v e) es

-- the lines of one event, in the world before it
abbrev pub event_lines : Words → Grammar → World → Event → List ℕ
event_lines w g v (Chooses c) = move_lines w v (V.Chooses c) (step g v (V.Chooses c))
event_lines w g v (Delivers k) = move_lines w v (V.Delivers k) (step g v (V.Delivers k))
event_lines w g v Settles = settle_lines (bound_of g v.taken) 0 w g v
event_lines w g v (Lists role) = list_lines w g v role

-- the lines of these events in turn
abbrev pub all_lines : Words → Grammar → World → List Event → List ℕ
all_lines w g v [] = []
all_lines w g v (e ∷ es) = event_lines w g v e ++ all_lines w g (after_event g v e) es

-- no choices that were taken are without a configuration
abbrev pub artifacts_on : Words → Option Config → List ℕ
artifacts_on w None = []
artifacts_on w (Some c) = artifacts w c

-- by the first message that was not delivered, where there is one
abbrev pub ending_on : Words → Grammar → World → Option ℕ → List ℕ
ending_on w g v None = artifacts_on w (undivided g [] v.taken)
ending_on w g v (Some k) = codes "undelivered " ++ (decimal (count_open v.delivered) ++ codes "\n")

-- once every message was delivered, the artifacts of the choices taken; and before that how many messages were not
abbrev pub ending : Words → Grammar → World → List ℕ
ending w g v = ending_on w g v (undelivered v)

-- the output of a grammar and its events: the lines of all events, from the world in which no site holds anything, and then the ending
abbrev pub output_of : Words → Grammar → Bool → List Event → List ℕ
output_of w g loads es = all_lines w g (empty_world g loads) es ++ ending w g (after_events g (empty_world g loads) es)

-- the deliveries that settling makes, at most n of them
abbrev pub settle_moves : ℕ → Grammar → World → List Move
settle_moves zero g v = []
settle_moves (suc n) g v = elim (undelivered v) [ None ↦ [] | Some k ↦ V.Delivers k ∷ settle_moves n g (deliver g v k).world ]

-- the choices and deliveries that an event is
abbrev pub moves_of : Grammar → World → Event → List Move
moves_of g v (Chooses c) = V.Chooses c ∷ []
moves_of g v (Delivers k) = V.Delivers k ∷ []
moves_of g v Settles = settle_moves (bound_of g v.taken) g v
moves_of g v (Lists role) = []

-- the choices and deliveries that these events are
abbrev pub all_moves : Grammar → World → List Event → List Move
all_moves g v [] = []
all_moves g v (e ∷ es) = moves_of g v e ++ all_moves g (after_event g v e) es

-- the world after the first n choices and deliveries of these events
abbrev pub moment : Grammar → Bool → List Event → ℕ → World
moment g loads es n = run g (empty_world g loads) (take n (all_moves g (empty_world g loads) es))
