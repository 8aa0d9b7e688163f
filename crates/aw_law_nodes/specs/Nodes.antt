-- Nodes: sites that are asked by frames, one beside the other.
use Rattle.std.specs.Prelude.{◌≡◌, ℕ, ◌<◌, Bool, false, not, List, [], ◌∷◌, ◌++◌, length, Option, Some, None, slice_get, slice_set, nat_eq, if◌then◌else◌, filter}
use Rattle.aw_list.specs.Members.{Member}
use Rattle.aw_term.specs.Artifacts.{Item}
use Rattle.aw_term.specs.Choices.{Choice, Answer}
use Rattle.aw_term.specs.Names.{Ref}
use Rattle.aw_term.specs.Rules.{Grammar, get}
use Rattle.aw_term.specs.Trees.{Never}
use Rattle.aw_term.specs.WellFormed.{Each}
use Rattle.aw_base.specs.ChoiceFits.{choice_ok}
use Rattle.aw_apply.specs.Messages.{Message, Received, New, Repeat, Conflict, NotMine, BadName, Content}
use Rattle.aw_law_sites.specs.Choosing.{Chosen, No, Did, answer_to, choose}
use Rattle.aw_law_sites.specs.Homes.{home}
use Rattle.aw_law_sites.specs.Reacting.{receive}
use Rattle.aw_law_sites.specs.SiteEvents.{SiteEvent, Chose, Got}
use Rattle.aw_law_sites.specs.Sites.{Site, empty_site, Reaction}
use Rattle.aw_law_sites.specs.Worklists.{site_worklist}
use Rattle.aw_law_sites.specs.Worlds.{node_of, World, empty_world, site_at, Reply, Answered, IsNew, Again, Move, Chooses, Delivers, step}
use Rattle.aw_law_worlds.specs.Invariant.{sender, IsSent}
use Rattle.aw_law_worlds.specs.Laws.{MayCome, world_after}

-- a message that comes, a choice, or a question for a place of the outbox or of the worklist
pub data Frame : Type 0 where
  Push : (message : Message) → Frame
  Choose : (choice : Choice) → Frame
  Pull : (place : ℕ) → Frame
  Listed : (place : ℕ) → Frame

-- the replies to a push, to a choice, and to questions
pub data Response : Type 0 where
  WasNew : Response
  WasHeld : Response
  Contradicts : (kept came : Content) → Response
  NotForMe : Response
  NotValid : Response
  Answers : (answer : Answer Ref) → Response
  Sends : (message : Message) → Response
  Shows : (item : Item) → Response
  Ended : (count : ℕ) → Response

-- a site, and what it replies
pub record Handled : Type 0 where
  pub site : Site
  pub response : Response

-- only what is new changes a site
abbrev pub received : Site → Received Reaction → Handled
received s (New x) = record { site = x.site; response = WasNew }
received s Repeat = record { site = s; response = WasHeld }
received s (Conflict a b) = record { site = s; response = Contradicts a b }
received s NotMine = record { site = s; response = NotForMe }
received s BadName = record { site = s; response = NotValid }

-- only what is taken changes a site
abbrev pub chosen : Site → Chosen → Handled
chosen s (No a) = record { site = s; response = Answers a }
chosen s (Did x) = record { site = x.site; response = Answers (answer_to (Did x)) }

-- what stands at a place, or how many places there are
abbrev pub at_place : {A : Type 0} → (A → Response) → ℕ → Option A → Response
at_place f n None = Ended n
at_place f n (Some x) = f x

-- one frame asked of a site; a question changes nothing
abbrev pub handle : Grammar → Site → Frame → Handled
handle g s (Push m) = received s (receive g s m)
handle g s (Choose c) =
    if not (choice_ok g c) then record { site = s; response = NotValid }
    else if not (nat_eq (home g (node_of c)) s.role) then record { site = s; response = NotForMe }
    else chosen s (choose g s c)
handle g s (Pull k) = record { site = s; response = at_place Sends (length s.outbox) (slice_get s.outbox k) }
handle g s (Listed k) =
    let items = site_worklist g s.equations s.held in
    record { site = s; response = at_place Shows (length items) (slice_get items k) }

-- the site after a session, and its replies
abbrev pub site_after : Grammar → Site → List Frame → Site
site_after g s [] = s
site_after g s (f ∷ fs) = site_after g (handle g s f).site fs

-- the replies to a session, frame by frame
abbrev pub replies : Grammar → Site → List Frame → List Response
replies g s [] = []
replies g s (f ∷ fs) = (handle g s f).response ∷ replies g (handle g s f).site fs

-- a frame that was asked of a role's site
pub record Asked : Type 0 where
  pub role : ℕ
  pub frame : Frame

-- the site of a role among the sites of all roles
abbrev pub site_of : List Site → ℕ → Site
site_of ss r = get (empty_site false r) ss r

-- a frame asked of the site of its role
abbrev pub handled : Grammar → List Site → Asked → Handled
handled g ss a = handle g (site_of ss a.role) a.frame

-- the sites after one frame
abbrev pub ask : Grammar → List Site → Asked → List Site
ask g ss a = slice_set ss a.role (handled g ss a).site

-- the sites after frames, in the order in which they were answered, and the replies
abbrev pub sites_after : Grammar → List Site → List Asked → List Site
sites_after g ss [] = ss
sites_after g ss (a ∷ as_) = sites_after g (ask g ss a) as_

-- the replies to frames, in the order in which they were answered
abbrev pub all_replies : Grammar → List Site → List Asked → List Response
all_replies g ss [] = []
all_replies g ss (a ∷ as_) = (handled g ss a).response ∷ all_replies g (ask g ss a) as_

-- what was asked of one role
abbrev pub asked_of : ℕ → List Asked → List Frame
asked_of r [] = []
asked_of r (a ∷ as_) = if nat_eq a.role r then a.frame ∷ asked_of r as_ else asked_of r as_

-- of two lists side by side, what belongs to one role
abbrev pub replies_of : ℕ → List Asked → List Response → List Response
replies_of r [] xs = []
replies_of r (a ∷ as_) [] = []
replies_of r (a ∷ as_) (x ∷ xs) = if nat_eq a.role r then x ∷ replies_of r as_ xs else replies_of r as_ xs

-- a pushed message stands in the outbox of another role and is for this one; a choice is answered
abbrev pub IsHonestFrame : Grammar → List Site → ℕ → Frame → Type 0
IsHonestFrame g ss r (Push m) = (m.to ≡ r) × ((b : ℕ) × (b ≡ r → Never) × Member m (site_of ss b).outbox)
IsHonestFrame g ss r (Choose c) = (x : Answer Ref) × ((handle g (site_of ss r) (Choose c)).response ≡ Answers x)
IsHonestFrame g ss r (Pull k) = Unit {0}
IsHonestFrame g ss r (Listed k) = Unit {0}

-- each frame is honest when it is asked
abbrev pub AreHonest : Grammar → List Site → List Asked → Type 0
AreHonest g ss [] = Unit {0}
AreHonest g ss (a ∷ as_) = IsHonestFrame g ss a.role a.frame × AreHonest g (ask g ss a) as_

-- a question is nothing that happens
abbrev pub happening_of : Frame → List SiteEvent
happening_of (Push m) = Got m ∷ []
happening_of (Choose c) = Chose c ∷ []
happening_of (Pull k) = []
happening_of (Listed k) = []

-- what happens, in the order in which the frames were answered
abbrev pub happenings : List Asked → List SiteEvent
happenings [] = []
happenings (a ∷ as_) = happening_of a.frame ++ happenings as_

-- these events of a world are what happens, each message by a number that it has there
abbrev pub ReadAs : Grammar → World → List SiteEvent → List Move → Type 0
ReadAs g w [] [] = Unit {0}
ReadAs g w (Chose c ∷ hs) (Chooses d ∷ es) = (c ≡ d) × ReadAs g (step g w (Chooses d)).world hs es
ReadAs g w (Got m ∷ hs) (Delivers k ∷ es) = IsSent w m k × ReadAs g (step g w (Delivers k)).world hs es
ReadAs g w _ _ = Never

-- a world and a node say the same
abbrev pub SaysSame : Reply → Response → Type 0
SaysSame (Answered a) (Answers b) = a ≡ b
SaysSame IsNew WasNew = Unit {0}
SaysSame Again WasHeld = Unit {0}
SaysSame _ _ = Never

-- the replies of a world to these events in turn
abbrev pub world_replies : Grammar → World → List Move → List Reply
world_replies g w [] = []
world_replies g w (e ∷ es) = (step g w e).reply ∷ world_replies g (step g w e).world es

-- the replies to pushes and choices
abbrev pub reply_of : Frame → Response → List Response
reply_of (Push m) x = x ∷ []
reply_of (Choose c) x = x ∷ []
reply_of (Pull k) x = []
reply_of (Listed k) x = []

-- the replies to the pushes and choices among these frames
abbrev pub event_replies : Grammar → List Site → List Asked → List Response
event_replies g ss [] = []
event_replies g ss (a ∷ as_) = reply_of a.frame (handled g ss a).response ++ event_replies g (ask g ss a) as_

-- they say the same, one by one
abbrev pub AllSaySame : List Reply → List Response → Type 0
AllSaySame [] [] = Unit {0}
AllSaySame (r ∷ rs) (x ∷ xs) = SaysSame r x × AllSaySame rs xs
AllSaySame _ _ = Never

-- the messages of one sender
abbrev pub sent_by : Grammar → ℕ → List Message → List Message
sent_by g r ms = filter (λ (m : Message). nat_eq (sender g m.kind) r) ms

-- honest frames, in the order in which they were answered, are events of one world, whose sites the nodes then have
abbrev pub ServedNodes : Grammar → Type 0
ServedNodes g = (loads : Bool) (as_ : List Asked) → AreHonest g (empty_world g loads).sites as_ →
    (es : List Move) × ReadAs g (empty_world g loads) (happenings as_) es × Each (MayCome g) es
    × ((world_after g loads es).sites ≡ sites_after g (empty_world g loads).sites as_)

-- and the replies to pushes and choices are those of that world
abbrev pub ServedReplies : Grammar → Type 0
ServedReplies g = (loads : Bool) (as_ : List Asked) → AreHonest g (empty_world g loads).sites as_ →
    (es : List Move) → ReadAs g (empty_world g loads) (happenings as_) es →
    AllSaySame (world_replies g (empty_world g loads) es) (event_replies g (empty_world g loads).sites as_)

-- each site of a run, and its replies, are those of its own session
abbrev pub OwnSessions : Grammar → Type 0
OwnSessions g = (ss : List Site) (as_ : List Asked) (r : ℕ) → r < length ss →
    (site_of (sites_after g ss as_) r ≡ site_after g (site_of ss r) (asked_of r as_))
    × (replies_of r as_ (all_replies g ss as_) ≡ replies g (site_of ss r) (asked_of r as_))

-- the messages of a world, by sender, are the outboxes of its sites
abbrev pub MessagesAreOutboxes : Grammar → Type 0
MessagesAreOutboxes g = (loads : Bool) (es : List Move) → Each (MayCome g) es → (r : ℕ) →
    (site_at (world_after g loads es) r).outbox ≡ sent_by g r (world_after g loads es).messages
