-- Small cases that were worked by hand, on which the definitions of nodes, crashes and couriers are tried.
use Rattle.std.specs.Prelude.{◌≡◌, ℕ, true, false, List, [], ◌∷◌, ◌++◌, map, codes, Some, None}
use Rattle.aw_term.specs.Trees.{Never, Con, Num, Text}
use Rattle.aw_term.specs.Names.{Node, root, below, part, result}
use Rattle.aw_term.specs.Rules.{Grammar}
use Rattle.aw_term.specs.Choices.{Start, Develop, Taken}
use Rattle.aw_store.specs.Equations.{Is, Equation}
use Rattle.aw_apply.specs.Messages.{Message, Calls, Asks, Tells}
use Rattle.aw_law_sites.specs.Bounds.{bound_of}
use Rattle.aw_law_sites.specs.SiteEvents.{Chose, Got}
use Rattle.aw_law_sites.specs.Worlds.{World, Move, Chooses, Delivers, empty_world, run, undelivered, world_after}
use Rattle.aw_law_sites.specs.Worked.{clinic, visit, test, ada, seven}
use Rattle.aw_law_sites.specs.WorkedChoices.{sort, call, rule}
use Rattle.aw_law_nodes.specs.Nodes.{Frame, Push, Choose, Pull, WasNew, WasHeld, Answers, Sends, Ended, Asked, AreHonest, all_replies, happenings, ReadAs}
use Rattle.aw_law_nodes.specs.Crashes.{Posted, Frail, start_at, FrailEvent, Happens, GoesBack, frail_run, MayGoBack, AreAllowed, remaining, world_of}
use Rattle.aw_law_nodes.specs.Couriers.{Heard, Pushed, Gave, NoMore, Visit, session_of, IsQuietCall, IsSpentCall, IsBrokenCall, IsHonestWire, visit_frames, flat}

-- visit#1:p1 = "Ada"
abbrev name_of_ada : Equation
name_of_ada = record { left = part visit 1; body = Is (Text (codes "Ada")) [] }

-- visit#1:p2 = blood(visit#1:p1)
abbrev blood_of_ada : Equation
blood_of_ada = record { left = part visit 2; body = Is (Con 0) (part visit 1 ∷ []) }

-- the test is called at the laboratory, with its values
abbrev pub calls_test : Message
calls_test = record { to = 1; kind = Calls (record { node = test; sort = 1; inherited = part visit 2 ∷ [] }) (blood_of_ada ∷ name_of_ada ∷ []) }

-- the clinic asks for the result of the test
abbrev pub asks_result : Message
asks_result = record { to = 1; kind = Asks (result test 1) 0 }

-- the laboratory tells it, with the value that was entered
abbrev pub tells_found : Message
tells_found =
    record {
      to = 0;
      kind = Tells (record { left = result test 1; body = Is (Con 2) (part visit 1 ∷ part test 1 ∷ []) }) (record { left = part test 1; body = Is (Num 7) [] } ∷ []);
    }

-- the laboratory tells that there was no result
abbrev pub tells_none : Message
tells_none = record { to = 0; kind = Tells (record { left = result test 1; body = Is (Con 3) [] }) [] }

-- ---- nodes

-- a frame asked of a role
abbrev at : ℕ → Frame → Asked
at r f = record { role = r; frame = f }

-- the messages of the clinic come to the laboratory the other way round, and one of them twice
abbrev frames : List Asked
frames =
    at 0 (Choose (Start 0 1)) ∷ at 0 (Choose (Develop visit 0 (ada ∷ []))) ∷ at 0 (Pull 0) ∷ at 1 (Push asks_result) ∷ at 1 (Push calls_test)
    ∷ at 1 (Choose (Develop test 1 (seven ∷ []))) ∷ at 1 (Pull 0) ∷ at 0 (Push tells_found) ∷ at 1 (Push calls_test) ∷ at 1 (Pull 1) ∷ []

-- the replies, frame by frame
abbrev pub NodesReply : Type 0
NodesReply =
    all_replies clinic (empty_world clinic true).sites frames
    ≡ Answers Taken ∷ Answers Taken ∷ Sends calls_test ∷ WasNew ∷ WasNew ∷ Answers Taken ∷ Sends tells_found ∷ WasNew ∷ WasHeld ∷ Ended 1 ∷ []

-- each frame is honest when it is asked
abbrev pub NodesAreHonest : Type 0
NodesAreHonest = AreHonest clinic (empty_world clinic true).sites frames

-- they are these events of one world
abbrev pub NodesAreOneWorld : Type 0
NodesAreOneWorld =
    ReadAs clinic (empty_world clinic true) (happenings frames)
    (Chooses (Start 0 1) ∷ Chooses (Develop visit 0 (ada ∷ [])) ∷ Delivers 1 ∷ Delivers 0 ∷ Chooses (Develop test 1 (seven ∷ [])) ∷ Delivers 2 ∷ Delivers 0 ∷ [])

-- ---- crashes

-- the call comes twice, and the test is analysed in between
abbrev first : List FrailEvent
first =
    Happens (Chooses (Start 0 1)) ∷ Happens (Chooses (Develop visit 0 (ada ∷ []))) ∷ Happens (Delivers 1) ∷ Happens (Delivers 0)
    ∷ Happens (Chooses (Develop test 1 (seven ∷ []))) ∷ Happens (Delivers 0) ∷ []

-- the call comes again, and the test is skipped
abbrev next : List FrailEvent
next = Happens (Delivers 0) ∷ Happens (Chooses (Develop test 2 [])) ∷ Happens (Delivers 2) ∷ []

-- the world before the laboratory goes back
abbrev pub before_it : Frail
before_it = frail_run clinic true (start_at clinic true) first

-- the world after all of it
abbrev after_it : Frail
after_it = frail_run clinic true (start_at clinic true) (first ++ GoesBack 1 1 ∷ next)

-- a message, who sent it, in which event, and how many events its addressee had before each delivery
abbrev pub posted_by : ℕ → ℕ → Message → List ℕ → Posted
posted_by r n m ds = record { message = m; from = r; event = n; deliveries = ds }

-- the laboratory is back at its first event: the call counts as not delivered, and what it told is gone
abbrev pub LabIsBack : Type 0
LabIsBack =
    (before_it.posted ≡ posted_by 0 1 calls_test (1 ∷ 3 ∷ []) ∷ posted_by 0 1 asks_result (0 ∷ []) ∷ posted_by 1 2 tells_found [] ∷ [])
    × ((frail_run clinic true (start_at clinic true) (first ++ GoesBack 1 1 ∷ [])).posted
    ≡ posted_by 0 1 calls_test [] ∷ posted_by 0 1 asks_result (0 ∷ []) ∷ [])

-- it goes on with another choice, and in the end all is quiet
abbrev pub LabGoesOn : Type 0
LabGoesOn =
    (after_it.posted ≡ posted_by 0 1 calls_test (1 ∷ []) ∷ posted_by 0 1 asks_result (0 ∷ []) ∷ posted_by 1 2 tells_none (2 ∷ []) ∷ [])
    × (remaining after_it
    ≡ Chose (Start 0 1) ∷ Chose (Develop visit 0 (ada ∷ [])) ∷ Got asks_result ∷ Got calls_test ∷ Chose (Develop test 2 []) ∷ Got tells_none ∷ [])
    × (undelivered (world_of after_it) ≡ None)

-- all of it is allowed
abbrev pub CrashIsAllowed : Type 0
CrashIsAllowed = AreAllowed clinic true (start_at clinic true) (first ++ GoesBack 1 1 ∷ next)

-- the clinic may not go back: its second event sent the call, which was delivered
abbrev pub ClinicMayNotGoBack : Type 0
ClinicMayNotGoBack = MayGoBack 0 1 before_it → Never

-- ---- couriers

-- the visit was admitted
abbrev pub admitted : World
admitted = world_after clinic true (Chooses (Start 0 1) ∷ Chooses (Develop visit 0 (ada ∷ [])) ∷ [])

-- a session with this role, before which no choice is made
abbrev session_with : ℕ → List Frame → List Heard → Visit
session_with r fs xs = record { choices = []; session = record { role = r; asked = fs; heard = xs } }

-- both messages are pulled at the clinic and pushed at the laboratory
abbrev round : List Visit
round =
    session_with 0 (Pull 0 ∷ Pull 1 ∷ Pull 2 ∷ []) (Gave calls_test ∷ Gave asks_result ∷ NoMore ∷ [])
    ∷ session_with 1 (Push calls_test ∷ Push asks_result ∷ Pull 0 ∷ []) (Pushed 1 ∷ Pushed 1 ∷ NoMore ∷ []) ∷ []

-- and nothing more is found
abbrev last : List Visit
last = session_with 0 (Pull 2 ∷ []) (NoMore ∷ []) ∷ session_with 1 (Pull 0 ∷ []) (NoMore ∷ []) ∷ []

-- the size of a frame in bytes, of each the same
abbrev size : Frame → ℕ
size f = 100

-- the two rounds answer that all is quiet, over an honest wire
abbrev pub CourierIsQuiet : Type 0
CourierIsQuiet =
    IsQuietCall size clinic (map (map session_of) (round ∷ [])) (map session_of last) × IsHonestWire clinic admitted.sites (flat (round ∷ []) ++ last)

-- one round alone is spent
abbrev pub CourierIsSpent : Type 0
CourierIsSpent = IsSpentCall size clinic (map (map session_of) (round ∷ []))

-- the first pull gets no reply
abbrev pub CourierBreaksOff : Type 0
CourierBreaksOff = IsBrokenCall size clinic [] [] (Some (record { role = 0; asked = Pull 0 ∷ []; heard = [] }))

-- another visit
abbrev second : Node
second = root 0 2

-- the clinic takes two choices after its session of the last round
abbrev late : List Visit
late =
    session_with 0 (Pull 2 ∷ []) (NoMore ∷ [])
    ∷ record { choices = Start 0 2 ∷ Develop second 0 (ada ∷ []) ∷ []; session = record { role = 1; asked = Pull 0 ∷ []; heard = NoMore ∷ [] } } ∷ []

-- the events of the world that they are
abbrev late_moves : List Move
late_moves = Delivers 0 ∷ Delivers 1 ∷ Chooses (Start 0 2) ∷ Chooses (Develop second 0 (ada ∷ [])) ∷ []

-- then the answer is the same, and a message waits: so the premise on late choices is needed
abbrev pub LateChoicesWait : Type 0
LateChoicesWait =
    IsQuietCall size clinic (map (map session_of) (round ∷ [])) (map session_of late)
    × IsHonestWire clinic admitted.sites (flat (round ∷ []) ++ late)
    × ReadAs clinic admitted (happenings (visit_frames clinic (flat (round ∷ []) ++ late))) late_moves
    × (undelivered (run clinic admitted late_moves) ≡ Some 2)

-- ---- how long a courier goes on

-- A letter is handed to a role that a round comes to first.
--   role post · role office · sort case office 0 0 · sort letter post 0 0 · start case · rule send : case()<> = letter()<>
abbrev pub posting : Grammar
posting = record { roles = 2; arities = []; sorts = sort 1 0 0 true ∷ sort 0 0 0 false ∷ []; rules = rule 0 [] 0 [] (call 1 [] 0 ∷ []) ∷ [] }

-- the letter of case 1 is sent
abbrev pub sent : World
sent = world_after posting true (Chooses (Start 0 1) ∷ Chooses (Develop (root 0 1) 0 []) ∷ [])

-- the letter is called at the post
abbrev pub calls_letter : Message
calls_letter = record { to = 0; kind = Calls (record { node = below (root 0 1) 0 1; sort = 1; inherited = [] }) [] }

-- the call is pulled at the office, which comes second
abbrev pulling : List Visit
pulling = session_with 0 (Pull 0 ∷ []) (NoMore ∷ []) ∷ session_with 1 (Pull 0 ∷ Pull 1 ∷ []) (Gave calls_letter ∷ NoMore ∷ []) ∷ []

-- so it is pushed in the next round
abbrev pushing : List Visit
pushing = session_with 0 (Push calls_letter ∷ Pull 0 ∷ []) (Pushed 1 ∷ NoMore ∷ []) ∷ session_with 1 (Pull 1 ∷ []) (NoMore ∷ []) ∷ []

-- and then nothing moves
abbrev resting : List Visit
resting = session_with 0 (Pull 0 ∷ []) (NoMore ∷ []) ∷ session_with 1 (Pull 1 ∷ []) (NoMore ∷ []) ∷ []

-- two rounds move something where the bound on messages is 1: as many as there may be
abbrev pub RoundsReachTheBound : Type 0
RoundsReachTheBound =
    IsQuietCall size posting (map (map session_of) (pulling ∷ pushing ∷ [])) (map session_of resting)
    × IsHonestWire posting sent.sites (flat (pulling ∷ pushing ∷ []) ++ resting)
    × (sent.messages ≡ calls_letter ∷ [])
    × (bound_of posting sent.taken ≡ 1)
