-- A courier: it pulls messages from the sites and pushes them to the sites that they are for.
use Rattle.std.specs.Prelude.{◌≡◌, ℕ, suc, ◌+◌, ◌-◌, ◌<◌, ◌≤◌, Bool, true, false, ◌&&◌, List, [], ◌∷◌, ◌++◌, map, Option, None, Some, nat_eq, nat_le, nat_lt, slice_set, if◌then◌else◌, filter}
use Rattle.aw_term.specs.Choices.{Choice}
use Rattle.aw_term.specs.Rules.{Grammar, get, upto}
use Rattle.aw_term.specs.Trees.{Never}
use Rattle.aw_term.specs.WellFormed.{Each}
use Rattle.aw_base.specs.ChoiceFits.{choice_ok}
use Rattle.aw_apply.specs.Messages.{Message}
use Rattle.aw_law_sites.specs.Homes.{home}
use Rattle.aw_law_sites.specs.Sites.{Site}
use Rattle.aw_law_sites.specs.Worlds.{node_of, Move, IsQuiet}
use Rattle.aw_law_worlds.specs.Laws.{MayCome, world_after}
use Rattle.aw_law_nodes.specs.Nodes.{Frame, Push, Choose, Pull, Asked, sites_after, all_replies, happenings, ReadAs}
use Rattle.aw_law_nodes.specs.Nodes.{Response, WasNew, WasHeld, Contradicts, NotForMe, NotValid, Answers, Sends, Shows, Ended}

-- ---- what a courier writes and reads

-- what a courier makes of a reply: the kind of a reply to a push, a message, or that there are no more messages, however many there were
pub data Heard : Type 0 where
  Pushed : (kind : ℕ) → Heard
  Gave : (message : Message) → Heard
  NoMore : Heard

-- how a courier hears the replies of a site
abbrev pub hear : Response → Heard
hear WasNew = Pushed 1
hear WasHeld = Pushed 2
hear (Contradicts kept came) = Pushed 3
hear NotForMe = Pushed 4
hear NotValid = Pushed 5
hear (Answers answer) = Pushed 6
hear (Sends m) = Gave m
hear (Shows item) = Pushed 11
hear (Ended n) = NoMore

-- one session: the role that was dialed, the frames written, and what was heard to each of them
pub record Session : Type 0 where
  pub role : ℕ
  pub asked : List Frame
  pub heard : List Heard

-- the messages pulled and not yet pushed, in the order of pulling, and of each role the first place not yet pulled
pub record Courier : Type 0 where
  pub waiting : List Message
  pub places : List ℕ

-- nothing was pulled yet
abbrev pub new_courier : Grammar → Courier
new_courier g = record { waiting = []; places = map (λ r. 0) (upto 0 g.roles) }

-- the messages for a role, in their order
abbrev pub for_role : ℕ → List Message → List Message
for_role r ms = filter (λ (m : Message). nat_eq m.to r) ms

-- the first message for this role is taken out
abbrev pub without : ℕ → List Message → List Message
without r [] = []
without r (m ∷ ms) = if nat_eq m.to r then ms else m ∷ without r ms

-- the bytes that one turn may write
abbrev pub turn_room : ℕ
turn_room = 67108864

-- the messages that one turn may pull
abbrev pub turn_messages : ℕ
turn_messages = 1000000

-- a frame and those behind it, or none of them
abbrev pub asks : Bool → Frame → List Frame → List Frame
asks true f fs = f ∷ fs
asks false f fs = []

-- a turn goes on pulling only after a message
abbrev pub after_reply : Heard → List Frame → List Frame
after_reply (Gave m) fs = fs
after_reply NoMore fs = []
after_reply (Pushed k) fs = []

-- all but the first
abbrev pub behind : {A : Type 0} → List A → List A
behind [] = []
behind (x ∷ xs) = xs

-- pulls from this place on, as the replies go
abbrev pub pulls : (Frame → ℕ) → ℕ → ℕ → ℕ → List Heard → List Frame
pulls size room left p [] = asks (nat_lt 0 left && nat_le (size (Pull p)) room) (Pull p) []
pulls size room left p (x ∷ xs) =
    asks (nat_lt 0 left && nat_le (size (Pull p)) room) (Pull p) (after_reply x (pulls size (room - size (Pull p)) (left - 1) (suc p) xs))

-- pushes, and then the pulls; what has no room any more waits, with all behind it
abbrev pub pushes : (Frame → ℕ) → ℕ → List Message → ℕ → List Heard → List Frame
pushes size room [] p xs = pulls size room turn_messages p xs
pushes size room (m ∷ ms) p xs = asks (nat_le (size (Push m)) room) (Push m) (pushes size (room - size (Push m)) ms p (behind xs))

-- the requests of a turn, as the replies go
abbrev pub requests : (Frame → ℕ) → Courier → ℕ → List Heard → List Frame
requests size c r xs = pushes size turn_room (for_role r c.waiting) (get 0 c.places r) xs

-- what one reply does
abbrev pub note : ℕ → Frame → Heard → Courier → Courier
note r (Push m) x c = record c { waiting = without r c.waiting }
note r (Pull p) (Gave m) c = record { waiting = c.waiting ++ m ∷ []; places = slice_set c.places r (suc p) }
note r f x c = c

-- what the replies of a session do, one by one
abbrev pub noted : ℕ → List Frame → List Heard → Courier → Courier
noted r [] xs c = c
noted r (f ∷ fs) [] c = c
noted r (f ∷ fs) (x ∷ xs) c = noted r fs xs (note r f x c)

-- the courier after a session
abbrev pub after_session : Courier → Session → Courier
after_session c s = noted s.role s.asked s.heard c

-- a reply frame to that request: a pull is answered by a message for a role, which can be pushed in one turn, or by their number; a push by one of the kinds 1 to 5
abbrev pub IsReplyTo : (Frame → ℕ) → Grammar → Frame → Heard → Type 0
IsReplyTo size g (Pull p) (Gave m) = (m.to < g.roles) × (size (Push m) ≤ turn_room)
IsReplyTo size g (Pull p) NoMore = Unit {0}
IsReplyTo size g (Push m) (Pushed k) = (1 ≤ k) × (k ≤ 5)
IsReplyTo size g f x = Never

-- each frame has its reply
abbrev pub AreReplies : (Frame → ℕ) → Grammar → List Frame → List Heard → Type 0
AreReplies size g [] [] = Unit {0}
AreReplies size g (f ∷ fs) (x ∷ xs) = IsReplyTo size g f x × AreReplies size g fs xs
AreReplies size g _ _ = Never

-- whole turns, one behind the other
abbrev pub AreTurns : (Frame → ℕ) → Grammar → Courier → List Session → Type 0
AreTurns size g c [] = Unit {0}
AreTurns size g c (s ∷ ss) = (s.asked ≡ requests size c s.role s.heard) × AreReplies size g s.asked s.heard × AreTurns size g (after_session c s) ss

-- each push and each message pulled is a move
abbrev pub move : Frame → Heard → ℕ
move (Push m) x = 1
move (Pull p) (Gave m) = 1
move f x = 0

-- the moves of a session
abbrev pub moves : List Frame → List Heard → ℕ
moves [] xs = 0
moves (f ∷ fs) [] = 0
moves (f ∷ fs) (x ∷ xs) = move f x + moves fs xs

-- the moves of a round
abbrev pub round_moves : List Session → ℕ
round_moves [] = 0
round_moves (s ∷ ss) = moves s.asked s.heard + round_moves ss

-- the lists one behind the other
abbrev pub flat : {A : Type 0} → List (List A) → List A
flat [] = []
flat (xs ∷ xss) = xs ++ flat xss

-- a round goes through the roles in order
abbrev pub IsRound : Grammar → List Session → Type 0
IsRound g ss = map (λ (s : Session). s.role) ss ≡ upto 0 g.roles

-- a call that answers Quiet: rounds with a move, and a last one without
pub record IsQuietCall (size : Frame → ℕ) (g : Grammar) (rounds : List (List Session)) (last : List Session) : Type 0 where
  pub each : Each (IsRound g) rounds
  pub one : IsRound g last
  pub turns : AreTurns size g (new_courier g) (flat rounds ++ last)
  pub moving : Each (λ (ss : List Session). 0 < round_moves ss) rounds
  pub still : round_moves last ≡ 0

-- a call that answers RoundsSpent: so many rounds, each with a move
pub record IsSpentCall (size : Frame → ℕ) (g : Grammar) (rounds : List (List Session)) : Type 0 where
  pub each : Each (IsRound g) rounds
  pub turns : AreTurns size g (new_courier g) (flat rounds)
  pub moving : Each (λ (ss : List Session). 0 < round_moves ss) rounds

-- the second list begins with the first
abbrev pub IsPrefix : {A : Type 0} → List A → List A → Type 0
IsPrefix {A} xs ys = (zs : List A) × (ys ≡ xs ++ zs)

-- the courier after these sessions
abbrev pub after_all : Courier → List Session → Courier
after_all c [] = c
after_all c (s ∷ ss) = after_all (after_session c s) ss

-- what was heard fits, as far as it goes
abbrev pub FitSoFar : (Frame → ℕ) → Grammar → List Frame → List Heard → Type 0
FitSoFar size g fs [] = Unit {0}
FitSoFar size g [] (x ∷ xs) = Never
FitSoFar size g (f ∷ fs) (x ∷ xs) = IsReplyTo size g f x × FitSoFar size g fs xs

-- a turn that broke off: its frames, written whole, begin the requests
abbrev pub IsBrokenTurn : (Frame → ℕ) → Grammar → Courier → Option Session → Type 0
IsBrokenTurn size g c None = Unit {0}
IsBrokenTurn size g c (Some s) = IsPrefix s.asked (requests size c s.role s.heard) × FitSoFar size g s.asked s.heard

-- the role of the turn that broke off
abbrev pub role_of : Option Session → List ℕ
role_of None = []
role_of (Some s) = s.role ∷ []

-- a call that broke off: rounds with a move, whole turns of the next round, and perhaps a turn that broke off
pub record IsBrokenCall (size : Frame → ℕ) (g : Grammar) (rounds : List (List Session)) (part : List Session) (cut : Option Session) : Type 0 where
  pub each : Each (IsRound g) rounds
  pub begun : IsPrefix (map (λ (s : Session). s.role) part ++ role_of cut) (upto 0 g.roles)
  pub turns : AreTurns size g (new_courier g) (flat rounds ++ part)
  pub moving : Each (λ (ss : List Session). 0 < round_moves ss) rounds
  pub broken : IsBrokenTurn size g (after_all (new_courier g) (flat rounds ++ part)) cut

-- ---- an honest wire

-- a session, and the choices that are made at the sites before it is dialed
pub record Visit : Type 0 where
  pub choices : List Choice
  pub session : Session

-- a choice is asked of the home of its node
abbrev pub choice_frame : Grammar → Choice → Asked
choice_frame g c = record { role = home g (node_of c); frame = Choose c }

-- a frame asked of a role
abbrev pub asked_at : ℕ → Frame → Asked
asked_at r f = record { role = r; frame = f }

-- the choices before a session
abbrev pub choice_frames : Grammar → Visit → List Asked
choice_frames g v = map (choice_frame g) v.choices

-- the frames of a session
abbrev pub session_frames : Visit → List Asked
session_frames v = map (asked_at v.session.role) v.session.asked

-- all that was asked of the sites, in order
abbrev pub visit_frames : Grammar → List Visit → List Asked
visit_frames g [] = []
visit_frames g (v ∷ vs) = choice_frames g v ++ (session_frames v ++ visit_frames g vs)

-- what was heard is a prefix of what these sites reply to what was written, with the choices between the sessions
abbrev pub IsHonestWire : Grammar → List Site → List Visit → Type 0
IsHonestWire g ss [] = Unit {0}
IsHonestWire g ss (v ∷ vs) =
    IsPrefix v.session.heard (map hear (all_replies g (sites_after g ss (choice_frames g v)) (session_frames v)))
    × IsHonestWire g (sites_after g (sites_after g ss (choice_frames g v)) (session_frames v)) vs

-- the session alone
abbrev pub session_of : Visit → Session
session_of v = v.session

-- no choice was made before it
abbrev pub NoChoice : Visit → Type 0
NoChoice v = v.choices ≡ []

-- no choice after the first of these sessions was dialed
abbrev pub NoneLater : List Visit → Type 0
NoneLater [] = Unit {0}
NoneLater (v ∷ vs) = Each NoChoice vs

-- its choices may be asked of the grammar
abbrev pub ChoicesOk : Grammar → Visit → Type 0
ChoicesOk g v = Each (λ (c : Choice). choice_ok g c ≡ true) v.choices

-- its role is declared
abbrev pub HasRole : Grammar → Visit → Type 0
HasRole g v = v.session.role < g.roles

-- over a wire that was honest for a world and these choices, where the answer is Quiet and no choice comes after the first session of the last round
-- was dialed, the world after these events has the sites that were asked and is quiet
abbrev pub QuietMeansQuiet : Grammar → Type 0
QuietMeansQuiet g = (size : Frame → ℕ) → ((p : ℕ) → size (Pull p) ≤ turn_room) → (loads : Bool) (es : List Move) → Each (MayCome g) es →
    (rounds : List (List Visit)) (last : List Visit) → IsQuietCall size g (map (map session_of) rounds) (map session_of last) →
    Each (ChoicesOk g) (flat rounds ++ last) → NoneLater last → IsHonestWire g (world_after g loads es).sites (flat rounds ++ last) →
    (fs : List Move) × ReadAs g (world_after g loads es) (happenings (visit_frames g (flat rounds ++ last))) fs × Each (MayCome g) fs
    × ((world_after g loads (es ++ fs)).sites ≡ sites_after g (world_after g loads es).sites (visit_frames g (flat rounds ++ last)))
    × IsQuiet (world_after g loads (es ++ fs))

-- ---- in bytes

-- how replies are spelled, and what is heard in bytes that are one whole reply frame; no reply frame begins another
pub record IsSpelling (spelled : Response → List ℕ) (read : List ℕ → Option Heard) : Type 0 where
  pub one : (b u v : List ℕ) (h : Heard) (x : Response) → read b ≡ Some h → b ++ u ≡ spelled x ++ v → (b ≡ spelled x) × (h ≡ hear x)
  pub some_ : read [] ≡ None

-- where the bytes of whole reply frames are a prefix of the bytes of the sites' replies, so is what is heard
abbrev pub BytesAreHeard : Type 0
BytesAreHeard = (spelled : Response → List ℕ) (read : List ℕ → Option Heard) → IsSpelling spelled read →
    (bs : List (List ℕ)) (hs : List Heard) (xs : List Response) → map read bs ≡ map Some hs → IsPrefix (flat bs) (flat (map spelled xs)) → IsPrefix hs (map hear xs)
