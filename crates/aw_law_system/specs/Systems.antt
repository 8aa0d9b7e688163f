-- A system: the nodes of all roles with their journals, and whoever carries messages between them; nodes crash, and replies break off.
use Rattle.std.specs.Prelude.{ℕ, ◌<◌, ◌≤◌, Bool, false, List, [], ◌∷◌, ◌++◌, map, length, slice_set}
use Rattle.aw_list.specs.Members.{Member}
use Rattle.aw_term.specs.Rules.{Grammar, get, upto}
use Rattle.aw_term.specs.Trees.{Never}
use Rattle.aw_apply.specs.Messages.{Message}
use Rattle.aw_law_nodes.specs.Crashes.{Kept, new_kept, back_kept, kept_frame}
use Rattle.aw_law_nodes.specs.Nodes.{Frame, Push, Choose, Pull, Listed, handle}
use Rattle.aw_law_nodes.specs.Nodes.{Response, WasNew, WasHeld, Contradicts, NotForMe, NotValid, Answers, Sends, Shows, Ended}

-- how far the reply to a frame got: no byte of it was written; some were, or all, and nobody heard it whole; or somebody did
pub data Extent : Type 0 where
  Unwritten : Extent
  Written : Extent
  Heard : Extent

-- Of each role its site and the events that it kept, and how many first events no crash takes; and all messages that whoever carries them ever heard.
pub record System : Type 0 where
  pub kept : List Kept
  pub safe : List ℕ
  pub hands : List Message

-- the node of a role
abbrev pub node_at : System → ℕ → Kept
node_at s r = get (new_kept false r) s.kept r

-- how many of its first events no crash takes
abbrev pub safe_at : System → ℕ → ℕ
safe_at s r = get 0 s.safe r

-- nothing happened yet
abbrev pub first_system : Grammar → Bool → System
first_system g loads = record { kept = map (new_kept loads) (upto 0 g.roles); safe = map (λ r. 0) (upto 0 g.roles); hands = [] }

-- a frame is asked of a role, with how far the reply to it got; or a role's node crashes, and goes on from so many of its first events
pub data Act : Type 0 where
  Asks : (role : ℕ) (frame : Frame) (reply : Extent) → Act
  Crashes : (role count : ℕ) → Act

-- the node after a frame: its site, and what it keeps of it
abbrev pub after_frame : Grammar → Kept → Frame → Kept
after_frame g k f = record { site = (handle g k.site f).site; events = k.events ++ kept_frame g k.site f }

-- where a byte of a reply is written all events are safe, whatever was asked
abbrev pub safe_after : Extent → ℕ → List ℕ → ℕ → List ℕ
safe_after Unwritten r safe count = safe
safe_after Written r safe count = slice_set safe r count
safe_after Heard r safe count = slice_set safe r count

-- the message of a reply
abbrev pub message_in : Response → List Message
message_in (Sends m) = m ∷ []
message_in WasNew = []
message_in WasHeld = []
message_in (Contradicts kept came) = []
message_in NotForMe = []
message_in NotValid = []
message_in (Answers answer) = []
message_in (Shows item) = []
message_in (Ended count) = []

-- a message is in somebody's hands once the whole reply was heard
abbrev pub hands_after : Extent → List Message → Response → List Message
hands_after Unwritten hands x = hands
hands_after Written hands x = hands
hands_after Heard hands x = hands ++ message_in x

-- the system after an act; a crash takes nothing out of anybody's hands
abbrev pub act : Grammar → Bool → System → Act → System
act g loads s (Asks r f x) =
    let k = after_frame g (node_at s r) f in
    record {
      kept = slice_set s.kept r k;
      safe = safe_after x r s.safe (length k.events);
      hands = hands_after x s.hands (handle g (node_at s r).site f).response;
    }
act g loads s (Crashes r n) = record s { kept = slice_set s.kept r (back_kept g loads r n (node_at s r)) }

-- these in turn
abbrev pub acts_on : Grammar → Bool → System → List Act → System
acts_on g loads s [] = s
acts_on g loads s (a ∷ as_) = acts_on g loads (act g loads s a) as_

-- only what is in somebody's hands is pushed; anything else may be asked
abbrev pub IsCarried : System → Frame → Type 0
IsCarried s (Push m) = Member m s.hands
IsCarried s (Choose c) = Unit {0}
IsCarried s (Pull k) = Unit {0}
IsCarried s (Listed k) = Unit {0}

-- a declared role is asked, of what may be pushed nothing else; and no crash takes a safe event, or makes one
abbrev pub IsAllowed : Grammar → System → Act → Type 0
IsAllowed g s (Asks r f x) = (r < g.roles) × IsCarried s f
IsAllowed g s (Crashes r n) = (r < g.roles) × (safe_at s r ≤ n) × (n ≤ length (node_at s r).events)

-- each is allowed when it comes
abbrev pub AreAllowed : Grammar → Bool → System → List Act → Type 0
AreAllowed g loads s [] = Unit {0}
AreAllowed g loads s (a ∷ as_) = IsAllowed g s a × AreAllowed g loads (act g loads s a) as_

-- the system after acts, from where nothing had happened
abbrev pub system_after : Grammar → Bool → List Act → System
system_after g loads as_ = acts_on g loads (first_system g loads) as_

-- these acts are what happened in a system
abbrev pub IsRun : Grammar → Bool → List Act → Type 0
IsRun g loads as_ = AreAllowed g loads (first_system g loads) as_

-- a byte of the reply was written
abbrev pub IsWritten : Extent → Type 0
IsWritten Unwritten = Never
IsWritten Written = Unit {0}
IsWritten Heard = Unit {0}
