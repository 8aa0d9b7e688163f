-- Messages that have bytes.
use Rattle.std.specs.Prelude.{◌≡◌, ℕ, Bool, List, [], ◌∷◌, map}
use Rattle.aw_list.specs.Members.{Member}
use Rattle.aw_term.specs.Trees.{Never}
use Rattle.aw_term.specs.Rules.{Grammar}
use Rattle.aw_term.specs.WellFormed.{Each}
use Rattle.aw_apply.specs.Messages as P
use Rattle.aw_law_sites.specs.Sites.{Site}
use Rattle.aw_law_sites.specs.Worlds.{Move}
use Rattle.aw_law_worlds.specs.Laws.{MayCome, world_after}
use Rattle.aw_msg.specs.Messages.{MessageSized, MessageInRange}
use Rattle.aw_msg.specs.MessageView.{message_of}
use Rattle.aw_msg.specs.declared.message.Message.{Message}
use Rattle.aw_law_nodes.specs.Couriers.{hear, new_courier, AreTurns, IsPrefix, Visit, choice_frames, session_frames, IsHonestWire, session_of, ChoicesOk, HasRole}
use Rattle.aw_law_nodes.specs.Nodes.{Frame, Push, Choose, Pull, Listed, Response, WasNew, WasHeld, Contradicts, NotForMe, NotValid, Answers, Sends, Shows, Ended, sites_after, all_replies}
use Rattle.aw_law_nodes.specs.Sizes.{GrammarSized, MoveSized, ChoicesSized}

-- it is a message of the program, whose numbers have their sizes and which is in range
abbrev pub IsEncodable : Grammar → P.Message → Type 0
IsEncodable g m = (k : Message) × (m ≡ message_of g k) × MessageSized k × MessageInRange k

-- in a world all of whose choices have their sizes each message is one of the program
abbrev pub MessagesAreEncodable : Grammar → Type 0
MessagesAreEncodable g = GrammarSized g → (loads : Bool) (es : List Move) → Each (MayCome g) es → Each MoveSized es →
    (m : P.Message) → Member m (world_after g loads es).messages → IsEncodable g m

-- ---- what a courier reads

-- What the sites of a world reply to a courier: that a message is new or was held, a message that has bytes, or how many there are.
abbrev pub HasBytes : Grammar → Response → Type 0
HasBytes g WasNew = Unit {0}
HasBytes g WasHeld = Unit {0}
HasBytes g (Sends m) = IsEncodable g m
HasBytes g (Ended n) = Unit {0}
HasBytes g (Contradicts kept came) = Never
HasBytes g NotForMe = Never
HasBytes g NotValid = Never
HasBytes g (Answers answer) = Never
HasBytes g (Shows item) = Never

-- a message that is pushed has bytes; a place that is pulled from is a number, whatever its size
abbrev pub PushHasBytes : Grammar → Frame → Type 0
PushHasBytes g (Push m) = IsEncodable g m
PushHasBytes g (Choose c) = Unit {0}
PushHasBytes g (Pull place) = Unit {0}
PushHasBytes g (Listed place) = Unit {0}

-- each message that is pushed in a session
abbrev pub PushesHaveBytes : Grammar → Visit → Type 0
PushesHaveBytes g v = Each (PushHasBytes g) v.session.asked

-- The wire was honest as long as all had bytes: in a session whose pushes have them, and to whose frames such replies came, and then in those behind it.
abbrev pub IsHonestInBytes : Grammar → List Site → List Visit → Type 0
IsHonestInBytes g ss [] = Unit {0}
IsHonestInBytes g ss (v ∷ vs) =
    PushesHaveBytes g v → Each (HasBytes g) (all_replies g (sites_after g ss (choice_frames g v)) (session_frames v)) →
    IsPrefix v.session.heard (map hear (all_replies g (sites_after g ss (choice_frames g v)) (session_frames v)))
    × IsHonestInBytes g (sites_after g (sites_after g ss (choice_frames g v)) (session_frames v)) vs

-- In every session of a courier at the sites of a world all of whose choices have their sizes such messages are pushed, and such replies come.
abbrev pub BytesAreHonest : Grammar → Type 0
BytesAreHonest g = GrammarSized g → (size : Frame → ℕ) (loads : Bool) (es : List Move) → Each (MayCome g) es → Each MoveSized es → (vs : List Visit) →
    AreTurns size g (new_courier g) (map session_of vs) → Each (HasRole g) vs → Each (ChoicesOk g) vs → Each ChoicesSized vs →
    IsHonestInBytes g (world_after g loads es).sites vs → IsHonestWire g (world_after g loads es).sites vs × Each (PushesHaveBytes g) vs
