-- A turn of a courier at one role.
use Rattle.std.specs.Prelude.{◌≡◌, ℕ, ◌<◌, nat_lt, List, [], ◌∷◌, ◌++◌, Bool, true, false, Option, None, Some, option_to_list, Ok, Err}
use Rattle.aw_out.specs.Wires as W
use Rattle.aw_out.specs.Wires.{Content, Both}
use Rattle.aw_term.specs.Rules.{Grammar, get}
use Rattle.aw_term.specs.Trees.{Never}
use Rattle.aw_term.specs.WellFormed.{Each}
use Rattle.aw_codec.specs.Reading.{Short}
use Rattle.aw_session.specs.Frames.{joined}
use Rattle.aw_session.specs.Sessions.{Follow}
use Rattle.aw_session.specs.Talking.{Counts}
use Rattle.aw_law_nodes.specs.Nodes.{Frame}
use Rattle.aw_law_nodes.specs.Couriers.{Heard, Session, Courier, for_role, pulls, pushes, requests, noted, after_session, AreReplies, moves, IsPrefix}
use Rattle.aw_courier.specs.Asking.{is_net, IsNoReply}
use Rattle.aw_courier.specs.Frames.{size, spelled_frames, PlaceFits}
use Rattle.aw_courier.specs.Mails.{Mailed, Shows}
use Rattle.aw_courier.specs.Replies.{reply, request_of}
use Rattle.aw_courier.specs.declared.broken.Broken.{Broken}
use Rattle.aw_courier.specs.declared.broken.Broken.TheVariants.{Net, Reply, NoMemory}

-- ---- what went over the wire

-- the bytes of whole replies to these requests, one for each, and what is heard in them
abbrev pub AreHeard : Grammar → List Frame → List Heard → List (List ℕ) → Type 0
AreHeard g [] [] [] = Unit {0}
AreHeard g (f ∷ fs) (x ∷ xs) (b ∷ bs) = (reply g (request_of f) b ≡ Ok (x, [])) × AreHeard g fs xs bs
AreHeard g _ _ _ = Never

-- a turn that came to its end, the bytes of each reply, and those that it left unread
pub record Turn : Type 0 where
  pub session : Session
  pub replies : List (List ℕ)
  pub left : List ℕ

-- the session alone
abbrev pub session_of : Turn → Session
session_of t = t.session

-- its replies were heard in these bytes, and it pulled from places that eight bytes spell
abbrev pub IsHeard : Grammar → Turn → Type 0
IsHeard g t = AreHeard g t.session.asked t.session.heard t.replies × Each PlaceFits t.session.asked

-- how a wire tells it: it was dialed, its requests were written and their replies read, and nothing else
abbrev pub told_as : Turn → W.Session
told_as t = record { role = t.session.role; dialed = true; read = joined t.replies; left = t.left; written = spelled_frames t.session.asked; failed = false }

-- ---- a turn underway

-- the requests that are still to come where the pushes go on with so much room
abbrev pub pushing : ℕ → ℕ → Courier → List Heard → List Frame
pushing r room now ys = pushes size room (for_role r now.waiting) (get 0 now.places r) ys

-- those where so many pulls may follow
abbrev pub pulling : ℕ → ℕ → ℕ → Courier → List Heard → List Frame
pulling r room left now ys = pulls size room left (get 0 now.places r) ys

-- none
abbrev pub ending : Courier → List Heard → List Frame
ending now ys = []

-- The first requests of a turn got their replies. `talks` tells what went over the wire, and `rest` which requests are still to come.
pub record IsUnderway {W' : Type 0} (g : Grammar) (talks : W' → W' → List ℕ → List ℕ → Bool → Type 0) (c : Courier) (r : ℕ) (u v : W') (m : Mailed)
    (rest : Courier → List Heard → List Frame) (moved : Bool) : Type 0 where
  pub asked : List Frame
  pub heard : List Heard
  pub replies : List (List ℕ)
  pub now : Courier
  pub talked : talks u v (joined replies) (spelled_frames asked) false
  pub are : AreHeard g asked heard replies
  pub places : Each PlaceFits asked
  pub fit : AreReplies size g asked heard
  pub order : (ys : List Heard) → requests size c r (heard ++ ys) ≡ asked ++ rest now ys
  pub now_is : now ≡ noted r asked heard c
  pub moved_is : moved ≡ nat_lt 0 (moves asked heard)
  pub shows : Shows g m now

-- ---- a turn that broke off

-- Why it did, where `all` are its requests and the first of them got their replies: a call failed before the reply to the next one was whole, of which the
-- kind and the length could be right; the next one was written whole, and what was read for it is none; or memory ran out.
abbrev pub WhyStopped : Grammar → List Frame → List Frame → List ℕ → List ℕ → Option Content → Broken → Type 0
WhyStopped g all asked written more left Net = (f : Frame) × (later : List Frame) × (all ≡ asked ++ f ∷ later) × (reply g (request_of f) more ≡ Err Short)
WhyStopped g all asked written more left Reply =
    (f : Frame) × (later : List Frame) × (all ≡ asked ++ f ∷ later) × (written ≡ spelled_frames (asked ++ f ∷ [])) × IsNoReply g (request_of f) more left
WhyStopped g all asked written more left NoMemory = Unit {0}

-- The session of a turn that broke off: the first requests got their replies, what was read behind these is `more`, and what was written begins the
-- bytes of the turn's requests.
pub record IsCut (g : Grammar) (c : Courier) (r : ℕ) (left : Option Content) (fault : Broken) (x : W.Session) : Type 0 where
  pub asked : List Frame
  pub heard : List Heard
  pub replies : List (List ℕ)
  pub more : List ℕ
  pub few : r < g.roles
  pub role : x.role ≡ r
  pub dialed : x.dialed ≡ true
  pub failed : x.failed ≡ is_net fault
  pub are : AreHeard g asked heard replies
  pub fit : AreReplies size g asked heard
  pub begun : IsPrefix asked (requests size c r heard)
  pub read : x.read ≡ joined replies ++ more
  pub part : IsPrefix x.written (spelled_frames (requests size c r heard))
  pub why : WhyStopped g (requests size c r heard) asked x.written more left fault

-- while the session was open
abbrev pub BreaksOff : Grammar → Courier → ℕ → (List ℕ → List ℕ → Bool → Type 0) → Option Content → Broken → Type 0
BreaksOff g c r talks left fault = (x : W.Session) × talks x.read x.written x.failed × IsCut g c r left fault x

-- the session that broke off, if one was opened
abbrev pub CutFits : Grammar → Courier → ℕ → Option Content → Broken → Option W.Session → Type 0
CutFits g c r left fault (Some x) = IsCut g c r left fault x
CutFits g c r left Net None = r < g.roles
CutFits g c r left Reply None = Never
CutFits g c r left NoMemory None = Unit {0}

-- ---- a turn from its begin

-- it came to its end, and whether something moved
pub record IsTurn {W' : Type 0} (g : Grammar) (content : W' → Option Content) (faults failed_openings : W' → ℕ) (c : Courier) (r : ℕ) (u v : W') (m : Mailed) (moved : Bool) : Type 0 where
  pub turn : Turn
  pub role : turn.session.role ≡ r
  pub asked : turn.session.asked ≡ requests size c r turn.session.heard
  pub fit : AreReplies size g turn.session.asked turn.session.heard
  pub heard : IsHeard g turn
  pub moved_is : moved ≡ nat_lt 0 (moves turn.session.asked turn.session.heard)
  pub shows : Shows g m (after_session c turn.session)
  pub told : Both (Follow (told_as turn ∷ [])) (content u) (content v)
  pub counts : faults v ≡ faults u
  pub openings : failed_openings v ≡ failed_openings u

-- it broke off, or could not be dialed
pub record IsStopped {W' : Type 0} (g : Grammar) (content : W' → Option Content) (faults : W' → ℕ) (c : Courier) (r : ℕ) (u v : W') (fault : Broken) : Type 0 where
  pub cut : Option W.Session
  pub fits : CutFits g c r (content v) fault cut
  pub told : Both (Follow (option_to_list cut)) (content u) (content v)
  pub counts : Counts (is_net fault) (faults u) (faults v)
