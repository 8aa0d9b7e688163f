-- Small cases that were worked by hand: what loads change, what another order changes, and what stays the same.
use Rattle.std.specs.Prelude.{◌≡◌, true, false, [], ◌∷◌, length, None}
use Rattle.aw_term.specs.Trees.{Con}
use Rattle.aw_term.specs.Choices.{Start, Develop}
use Rattle.aw_term.specs.Configs.{Done}
use Rattle.aw_term.specs.Held.{Held}
use Rattle.aw_term.specs.Names.{part, result}
use Rattle.aw_store.specs.Equations.{Is}
use Rattle.aw_apply.specs.Made.{Call}
use Rattle.aw_apply.specs.Messages.{Message, Asks, Tells}
use Rattle.aw_law_sites.specs.Worked.{clinic, visit, test, ada, seven}
use Rattle.aw_law_sites.specs.Worlds.{World, Chooses, Delivers, site_at, undelivered, world_after}
use Rattle.aw_law_lateness.specs.Sending.{HasCalled}

-- a visit is admitted and its test analysed, with loads; the question comes before the call
abbrev loaded : World
loaded = world_after clinic true
    (Chooses (Start 0 1) ∷ Chooses (Develop visit 0 (ada ∷ [])) ∷ Delivers 1 ∷ Delivers 0 ∷ Chooses (Develop test 1 (seven ∷ [])) ∷ Delivers 2 ∷ [])

-- the same without loads, in the order of sending, and the call comes again
abbrev bare : World
bare = world_after clinic false
    (Chooses (Start 0 1) ∷ Chooses (Develop visit 0 (ada ∷ [])) ∷ Delivers 0 ∷ Delivers 1 ∷ Delivers 2 ∷ Delivers 3 ∷ Delivers 0 ∷ Delivers 4 ∷ Delivers 5
    ∷ Chooses (Develop test 1 (seven ∷ [])) ∷ Delivers 6 ∷ Delivers 7 ∷ Delivers 8 ∷ [])

-- both are quiet
abbrev pub BothAreQuiet : Type 0
BothAreQuiet = (undelivered loaded ≡ None) × (undelivered bare ≡ None)

-- the visit, which was admitted
abbrev admitted : Held
admitted = record { node = visit; sort = 0; inherited = []; state = Done 0 (ada ∷ []) }

-- its test, which was analysed
abbrev analysed : Held
analysed = record { node = test; sort = 1; inherited = part visit 2 ∷ []; state = Done 1 (seven ∷ []) }

-- and hold the same tasks
abbrev pub SameTasks : Type 0
SameTasks =
    ((site_at loaded 0).held ≡ admitted ∷ []) × ((site_at loaded 1).held ≡ analysed ∷ [])
    × ((site_at bare 0).held ≡ admitted ∷ []) × ((site_at bare 1).held ≡ analysed ∷ [])

-- the clinic called the test in both, once with a load and once without
abbrev test_call : Call
test_call = record { node = test; sort = 1; inherited = part visit 2 ∷ [] }

abbrev pub BothCall : Type 0
BothCall = HasCalled (site_at loaded 0) 1 test_call × HasCalled (site_at bare 0) 1 test_call

-- but the one sent three messages, and the other nine
abbrev pub LoadsSendLess : Type 0
LoadsSendLess = (length loaded.messages ≡ 3) × (length bare.messages ≡ 9)

-- a visit is admitted and its test is not done, with loads
abbrev waits_loaded : World
waits_loaded = world_after clinic true (Chooses (Start 0 1) ∷ Chooses (Develop visit 0 (ada ∷ [])) ∷ Delivers 1 ∷ Delivers 0 ∷ [])

-- and without
abbrev waits_bare : World
waits_bare = world_after clinic false
    (Chooses (Start 0 1) ∷ Chooses (Develop visit 0 (ada ∷ [])) ∷ Delivers 0 ∷ Delivers 1 ∷ Delivers 2 ∷ Delivers 3 ∷ Delivers 4 ∷ Delivers 5 ∷ [])

-- both are quiet; in both the clinic asked for the result, which it has not, and the laboratory has to tell it
abbrev pub BothWait : Type 0
BothWait =
    (undelivered waits_loaded ≡ None) × (undelivered waits_bare ≡ None)
    × ((site_at waits_loaded 0).asked (result test 1) ≡ true) × ((site_at waits_bare 0).asked (result test 1) ≡ true)
    × ((site_at waits_loaded 1).watches (result test 1) 0 ≡ true) × ((site_at waits_bare 1).watches (result test 1) 0 ≡ true)

-- but the laboratory asked for the sample, and is watched for it, without loads alone: they brought it before it was missed
abbrev pub LoadsAskLess : Type 0
LoadsAskLess =
    ((site_at waits_loaded 1).asked (part visit 2) ≡ false) × ((site_at waits_bare 1).asked (part visit 2) ≡ true)
    × ((site_at waits_loaded 0).watches (part visit 2) 1 ≡ false) × ((site_at waits_bare 0).watches (part visit 2) 1 ≡ true)

-- the test is skipped before the laboratory knows its sample, without loads
abbrev skipped_early : World
skipped_early = world_after clinic false
    (Chooses (Start 0 1) ∷ Chooses (Develop visit 0 (ada ∷ [])) ∷ Delivers 0 ∷ Delivers 1 ∷ Chooses (Develop test 2 []) ∷ Delivers 2 ∷ Delivers 3 ∷ Delivers 4
    ∷ Delivers 5 ∷ Delivers 6 ∷ [])

-- and once it knows all of it
abbrev skipped_late : World
skipped_late = world_after clinic false
    (Chooses (Start 0 1) ∷ Chooses (Develop visit 0 (ada ∷ [])) ∷ Delivers 0 ∷ Delivers 1 ∷ Delivers 2 ∷ Delivers 3 ∷ Delivers 4 ∷ Delivers 5
    ∷ Chooses (Develop test 2 []) ∷ Delivers 6 ∷ [])

-- what the laboratory sends to the clinic
abbrev asks_sample : Message
asks_sample = record { to = 0; kind = Asks (part visit 2) 1 }

abbrev asks_name : Message
asks_name = record { to = 0; kind = Asks (part visit 1) 1 }

abbrev tells_none : Message
tells_none = record { to = 0; kind = Tells (record { left = result test 1; body = Is (Con 3) [] }) [] }

-- both are quiet, and the laboratory sent the same three messages, in another order
abbrev pub OrdersDiffer : Type 0
OrdersDiffer =
    (undelivered skipped_early ≡ None) × (undelivered skipped_late ≡ None)
    × ((site_at skipped_early 1).outbox ≡ asks_sample ∷ tells_none ∷ asks_name ∷ [])
    × ((site_at skipped_late 1).outbox ≡ asks_sample ∷ asks_name ∷ tells_none ∷ [])
