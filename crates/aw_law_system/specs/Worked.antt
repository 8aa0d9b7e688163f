-- Small systems that were worked by hand: what a crash may take, and a courier that carries through crashes.
use Rattle.std.specs.Prelude.{◌≡◌, ℕ, true, false, List, [], ◌∷◌, ◌++◌, map}
use Rattle.aw_term.specs.Trees.{Never}
use Rattle.aw_term.specs.Names.{Node, root, below}
use Rattle.aw_term.specs.Rules.{Grammar}
use Rattle.aw_term.specs.Choices.{Start, Develop}
use Rattle.aw_term.specs.Worked.{sort, call, rule}
use Rattle.aw_apply.specs.Messages.{Message, Calls}
use Rattle.aw_law_sites.specs.SiteEvents.{Got}
use Rattle.aw_law_sites.specs.Worked.{clinic, visit, ada}
use Rattle.aw_law_nodes.specs.Couriers.{Heard, Pushed, Gave, NoMore, Session, flat, IsQuietCall}
use Rattle.aw_law_nodes.specs.Nodes.{Frame, Push, Choose, Pull, Response, WasNew, WasHeld, handle}
use Rattle.aw_law_nodes.specs.Worked.{calls_test, asks_result}
use Rattle.aw_law_system.specs.Systems.{Extent, Unwritten, System, node_at, Act, Asks, Crashes, system_after, IsAllowed, IsRun}
use Rattle.aw_law_system.specs.Systems as systems
use Rattle.aw_law_system.specs.Resting.{Deed, Mine, Others, act_of, all_exchanges, exchanged, NoneTaken}

-- ---- what a crash may take

-- A task of a hands another one to b.
--   role a · role b · sort top a 0 0 · sort w b 0 0 · start top · rule t : top()<> = w()<>
abbrev handing : Grammar
handing = record { roles = 2; arities = []; sorts = sort 0 0 0 true ∷ sort 1 0 0 false ∷ []; rules = rule 0 [] 0 [] (call 1 [] 0 ∷ []) ∷ [] }

-- top#1
abbrev top : Node
top = root 0 1

-- the task at b is called
abbrev calls_w : Message
calls_w = record { to = 1; kind = Calls (record { node = below top 0 1; sort = 1; inherited = [] }) [] }

-- a's second choice is taken and kept, and no byte of its answer is written
abbrev unanswered : List Act
unanswered = Asks 0 (Choose (Start 0 1)) systems.Heard ∷ Asks 0 (Choose (Develop top 0 [])) Unwritten ∷ []

-- the call is pulled in a later session
abbrev pulled : List Act
pulled = unanswered ++ Asks 0 (Pull 0) systems.Heard ∷ []

-- before that a crash may take the choice
abbrev pub UnansweredMayGo : Type 0
UnansweredMayGo = IsAllowed handing (system_after handing true unanswered) (Crashes 0 1)

-- once it was pulled no crash may, though nobody was told that it was taken
abbrev pub PulledStays : Type 0
PulledStays = IsAllowed handing (system_after handing true pulled) (Crashes 0 1) → Never

-- if one did, and the call were pushed, b would work on a task that nobody called
abbrev pub NobodyCalled : Type 0
NobodyCalled =
    ((node_at (system_after handing true (pulled ++ Crashes 0 1 ∷ Asks 1 (Push calls_w) systems.Heard ∷ [])) 0).site.outbox ≡ [])
    × ((node_at (system_after handing true (pulled ++ Crashes 0 1 ∷ Asks 1 (Push calls_w) systems.Heard ∷ [])) 1).events ≡ Got calls_w ∷ [])

-- ---- a courier

-- a session
abbrev session : ℕ → List Frame → List Heard → Session
session r fs xs = record { role = r; asked = fs; heard = xs }

-- both messages are pulled at the clinic and pushed at the laboratory
abbrev round : List Session
round =
    session 0 (Pull 0 ∷ Pull 1 ∷ Pull 2 ∷ []) (Gave calls_test ∷ Gave asks_result ∷ NoMore ∷ [])
    ∷ session 1 (Push calls_test ∷ Push asks_result ∷ Pull 0 ∷ []) (Pushed 1 ∷ Pushed 1 ∷ NoMore ∷ []) ∷ []

-- and nothing more is found
abbrev last : List Session
last = session 0 (Pull 2 ∷ []) (NoMore ∷ []) ∷ session 1 (Pull 0 ∷ []) (NoMore ∷ []) ∷ []

-- the size of a frame in bytes, of each the same
abbrev size : Frame → ℕ
size f = 100

-- the visit is admitted, and nobody is told
abbrev admitted : List Act
admitted = Asks 0 (Choose (Start 0 1)) systems.Heard ∷ Asks 0 (Choose (Develop visit 0 (ada ∷ []))) Unwritten ∷ []

-- while the courier carries, another one pushes the call at the laboratory, whose node then crashes and loses it
abbrev carrying : List Deed
carrying =
    Mine 0 (Pull 0) ∷ Mine 0 (Pull 1) ∷ Others (Asks 1 (Push calls_test) Unwritten) ∷ Mine 0 (Pull 2) ∷ Others (Crashes 1 0)
    ∷ Mine 1 (Push calls_test) ∷ Mine 1 (Push asks_result) ∷ Others (Crashes 1 2) ∷ Mine 1 (Pull 0) ∷ []

-- in its last round the call is pushed once more, and both nodes crash; and so they do later
abbrev ending : List Deed
ending =
    Mine 0 (Pull 2) ∷ Others (Crashes 0 2) ∷ Others (Asks 1 (Push calls_test) Unwritten) ∷ Mine 1 (Pull 0) ∷ Others (Crashes 1 2) ∷ Others (Crashes 0 2) ∷ []

-- how the nodes answer where each message of the clinic comes to them once more
abbrev once_more : System → List Response
once_more s = map (λ (m : Message). (handle clinic (node_at s m.to).site (Push m)).response) (node_at s 0).site.outbox

-- the two rounds answer that all is quiet, all of this is allowed, no choice is taken in it, and each message is then a repeat
abbrev pub CarriesThroughCrashes : Type 0
CarriesThroughCrashes =
    IsQuietCall size clinic (round ∷ []) last
    × IsRun clinic true (admitted ++ (map act_of carrying ++ map act_of ending))
    × (exchanged clinic true (system_after clinic true admitted) carrying ≡ all_exchanges (flat (round ∷ [])))
    × (exchanged clinic true (system_after clinic true (admitted ++ map act_of carrying)) ending ≡ all_exchanges last)
    × NoneTaken clinic true (system_after clinic true (admitted ++ map act_of carrying)) (map act_of ending)
    × (once_more (system_after clinic true (admitted ++ (map act_of carrying ++ map act_of ending))) ≡ WasHeld ∷ WasHeld ∷ [])

-- another visit is admitted at the clinic after its session of the last round
abbrev admitting : List Deed
admitting =
    Mine 0 (Pull 2) ∷ Others (Asks 0 (Choose (Start 0 2)) systems.Heard) ∷ Others (Asks 0 (Choose (Develop (root 0 2) 0 (ada ∷ []))) systems.Heard)
    ∷ Mine 1 (Pull 0) ∷ []

-- then the courier hears the same, and its messages would be new: so the premise on choices is needed
abbrev pub LateChoicesAreNew : Type 0
LateChoicesAreNew =
    (exchanged clinic true (system_after clinic true (admitted ++ map act_of carrying)) admitting ≡ all_exchanges last)
    × (once_more (system_after clinic true (admitted ++ (map act_of carrying ++ map act_of admitting))) ≡ WasHeld ∷ WasHeld ∷ WasNew ∷ WasNew ∷ [])
