-- Worlds with crashes: a site may go back to an earlier one of its events.
use Rattle.std.specs.Prelude.{◌≡◌, ℕ, ◌<◌, Bool, true, false, not, ◌&&◌, List, [], ◌∷◌, ◌++◌, map, length, take, Option, Some, None, slice_get, slice_set, nat_eq, nat_le, if◌then◌else◌, filter}
use Rattle.aw_list.specs.Members.{Member}
use Rattle.aw_term.specs.Choices.{Choice}
use Rattle.aw_term.specs.Rules.{Grammar, get, upto}
use Rattle.aw_term.specs.WellFormed.{Each}
use Rattle.aw_base.specs.ChoiceFits.{choice_ok}
use Rattle.aw_apply.specs.Messages.{Message, Received, New}
use Rattle.aw_law_sites.specs.Joint.{Joint}
use Rattle.aw_law_sites.specs.Choosing.{Chosen, No, Did, choose}
use Rattle.aw_law_sites.specs.Homes.{home}
use Rattle.aw_law_sites.specs.Reacting.{receive}
use Rattle.aw_law_sites.specs.SiteEvents.{SiteEvent, Chose, Got, site_run}
use Rattle.aw_law_sites.specs.Sites.{Site, Reaction, empty_site}
use Rattle.aw_law_sites.specs.Worlds.{node_of, World, empty_world, Move, Chooses, Delivers}
use Rattle.aw_law_worlds.specs.Invariant.{IsInvariant}
use Rattle.aw_law_worlds.specs.Laws.{MayCome, world_after}
use Rattle.aw_law_nodes.specs.Nodes.{Frame, Push, Choose, Pull, Listed, handle, site_after, ReadAs}

-- ---- the world

-- a site with its events: the choices that were taken and the messages that were new, in order
pub record Kept : Type 0 where
  pub site : Site
  pub events : List SiteEvent

-- a message, who sent it, in which of the sender's events, counted from 0, and for each delivery made how many events its addressee had before it
pub record Posted : Type 0 where
  pub message : Message
  pub from : ℕ
  pub event : ℕ
  pub deliveries : List ℕ

-- a taken choice or a delivery, at which role, and how many events the site had before it
pub record Past : Type 0 where
  pub role : ℕ
  pub before : ℕ
  pub happening : SiteEvent

-- the sites, the messages, and all taken choices and deliveries that count as made, in order
pub record Frail : Type 0 where
  pub kept : List Kept
  pub posted : List Posted
  pub past : List Past

-- nothing has happened at this role
abbrev pub new_kept : Bool → ℕ → Kept
new_kept loads r = record { site = empty_site loads r; events = [] }

-- the site of a role with its events
abbrev pub kept_at : Frail → ℕ → Kept
kept_at w r = get (new_kept false r) w.kept r

-- the world in which nothing has happened
abbrev pub start_at : Grammar → Bool → Frail
start_at g loads = record { kept = map (new_kept loads) (upto 0 g.roles); posted = []; past = [] }

-- ---- choices and deliveries, as in a world without crashes

-- a reaction is one more event
abbrev pub kept_after : Kept → SiteEvent → Option Reaction → Kept
kept_after k h None = k
kept_after k h (Some x) = record { site = x.site; events = k.events ++ h ∷ [] }

-- a message that is just sent
abbrev pub posting : ℕ → ℕ → Message → Posted
posting r n m = record { message = m; from = r; event = n; deliveries = [] }

-- what a reaction sends
abbrev pub posts_of : ℕ → ℕ → Option Reaction → List Posted
posts_of r n None = []
posts_of r n (Some x) = map (posting r n) x.sent

-- it happens at a role; only a reaction is an event of its site
abbrev pub happen : Frail → ℕ → SiteEvent → Option Reaction → List Posted → Frail
happen w r h o posted =
    let k = kept_at w r in
    record {
      kept = slice_set w.kept r (kept_after k h o);
      posted = posted ++ posts_of r (length k.events) o;
      past = w.past ++ record { role = r; before = length k.events; happening = h } ∷ [];
    }

-- a refused choice changes nothing
abbrev pub chosen_frail : Frail → ℕ → Choice → Chosen → Frail
chosen_frail w r c (No a) = w
chosen_frail w r c (Did x) = happen w r (Chose c) (Some x) w.posted

-- only a new message has a reaction
abbrev pub reaction_of : Received Reaction → Option Reaction
reaction_of (New x) = Some x
reaction_of _ = None

-- one more delivery, before which its addressee had n events
abbrev pub with_delivery : ℕ → Posted → Posted
with_delivery n p = record p { deliveries = p.deliveries ++ n ∷ [] }

-- a message goes to the role that it is for
abbrev pub delivered_frail : Grammar → Frail → ℕ → Option Posted → Frail
delivered_frail g w k None = w
delivered_frail g w k (Some p) =
    let s = kept_at w p.message.to in
    happen w p.message.to (Got p.message) (reaction_of (receive g s.site p.message)) (slice_set w.posted k (with_delivery (length s.events) p))

-- one event
abbrev pub frail_step : Grammar → Frail → Move → Frail
frail_step g w (Chooses c) = chosen_frail w (home g (node_of c)) c (choose g (kept_at w (home g (node_of c))).site c)
frail_step g w (Delivers k) = delivered_frail g w k (slice_get w.posted k)

-- ---- going back

-- event number `event` at role `from` is dropped where role r goes back to its first n events
abbrev pub is_dropped : ℕ → ℕ → ℕ → ℕ → Bool
is_dropped r n from event = nat_eq from r && nat_le n event

-- the site after its first n events
abbrev pub back_kept : Grammar → Bool → ℕ → ℕ → Kept → Kept
back_kept g loads r n k = record { site = site_run g (empty_site loads r) (take n k.events); events = take n k.events }

-- deliveries at role r after its first n events count as not made
abbrev pub back_post : ℕ → ℕ → Posted → Posted
back_post r n p = record p { deliveries = filter (λ k. not (is_dropped r n p.message.to k)) p.deliveries }

-- messages of dropped events leave the list
abbrev pub back_posted : ℕ → ℕ → List Posted → List Posted
back_posted r n ps = map (back_post r n) (filter (λ (p : Posted). not (is_dropped r n p.from p.event)) ps)

-- dropped choices and deliveries are forgotten
abbrev pub back_past : ℕ → ℕ → List Past → List Past
back_past r n es = filter (λ (e : Past). not (is_dropped r n e.role e.before)) es

-- role r's site goes back to its first n events: the messages of dropped events leave the list
abbrev pub go_back : Grammar → Bool → ℕ → ℕ → Frail → Frail
go_back g loads r n w = record { kept = slice_set w.kept r (back_kept g loads r n (kept_at w r)); posted = back_posted r n w.posted; past = back_past r n w.past }

-- no dropped event sent a delivered message
abbrev pub MayGoBack : ℕ → ℕ → Frail → Type 0
MayGoBack r n w = (r < length w.kept) × ((p : Posted) → Member p w.posted → is_dropped r n p.from p.event ≡ true → p.deliveries ≡ [])

-- an event, or a site that goes back to its first events
pub data FrailEvent : Type 0 where
  Happens : (event : Move) → FrailEvent
  GoesBack : (role count : ℕ) → FrailEvent

-- one such event
abbrev pub frail_event : Grammar → Bool → Frail → FrailEvent → Frail
frail_event g loads w (Happens e) = frail_step g w e
frail_event g loads w (GoesBack r n) = go_back g loads r n w

-- these in turn
abbrev pub frail_run : Grammar → Bool → Frail → List FrailEvent → Frail
frail_run g loads w [] = w
frail_run g loads w (e ∷ es) = frail_run g loads (frail_event g loads w e) es

-- a choice may be asked of the grammar, and a site may go back
abbrev pub IsAllowed : Grammar → Frail → FrailEvent → Type 0
IsAllowed g w (Happens e) = MayCome g e
IsAllowed g w (GoesBack r n) = MayGoBack r n w

-- each is allowed when it comes
abbrev pub AreAllowed : Grammar → Bool → Frail → List FrailEvent → Type 0
AreAllowed g loads w [] = Unit {0}
AreAllowed g loads w (e ∷ es) = IsAllowed g w e × AreAllowed g loads (frail_event g loads w e) es

-- ---- seen as a world without crashes

-- some delivery counts as made
abbrev pub is_delivered : List ℕ → Bool
is_delivered [] = false
is_delivered (n ∷ ns) = true

-- the choices among what happened
abbrev pub choices_in : List SiteEvent → List Choice
choices_in [] = []
choices_in (Chose c ∷ hs) = c ∷ choices_in hs
choices_in (Got m ∷ hs) = choices_in hs

-- the events that remain
abbrev pub remaining : Frail → List SiteEvent
remaining w = map (λ (e : Past). e.happening) w.past

-- what a world without crashes tells of it
abbrev pub world_of : Frail → World
world_of w = record {
  sites = map (λ (k : Kept). k.site) w.kept;
  messages = map (λ (p : Posted). p.message) w.posted;
  delivered = map (λ (p : Posted). is_delivered p.deliveries) w.posted;
  taken = choices_in (remaining w);
}

-- sites, messages, what was delivered and what was taken are those of the world without crashes for the events that remain
abbrev pub CrashesLeaveAWorld : Grammar → Type 0
CrashesLeaveAWorld g = (loads : Bool) (es : List FrailEvent) → AreAllowed g loads (start_at g loads) es →
    (fs : List Move) × ReadAs g (empty_world g loads) (remaining (frail_run g loads (start_at g loads) es)) fs × Each (MayCome g) fs
    × (world_after g loads fs ≡ world_of (frail_run g loads (start_at g loads) es))

-- each site is that of its own events
abbrev pub SitesAreTheirEvents : Grammar → Type 0
SitesAreTheirEvents g = (loads : Bool) (es : List FrailEvent) → AreAllowed g loads (start_at g loads) es → (r : ℕ) → r < g.roles →
    (kept_at (frail_run g loads (start_at g loads) es) r).site ≡ site_run g (empty_site loads r) (kept_at (frail_run g loads (start_at g loads) es) r).events

-- so all that holds of worlds holds after crashes
abbrev pub InvariantAfterCrashes : Grammar → Type 0
InvariantAfterCrashes g = (loads : Bool) (es : List FrailEvent) → AreAllowed g loads (start_at g loads) es →
    (x : Joint) × IsInvariant g loads (world_of (frail_run g loads (start_at g loads) es)) x

-- ---- a kept node

-- the choices that are taken and the messages that are new, among frames asked of a site
abbrev pub kept_choice : Choice → Chosen → List SiteEvent
kept_choice c (No a) = []
kept_choice c (Did x) = Chose c ∷ []

-- a message that is new
abbrev pub kept_message : Message → Received Reaction → List SiteEvent
kept_message m (New x) = Got m ∷ []
kept_message m _ = []

-- what is kept of one frame
abbrev pub kept_frame : Grammar → Site → Frame → List SiteEvent
kept_frame g s (Push m) = kept_message m (receive g s m)
kept_frame g s (Choose c) =
    if not (choice_ok g c) then []
    else if not (nat_eq (home g (node_of c)) s.role) then []
    else kept_choice c (choose g s c)
kept_frame g s (Pull k) = []
kept_frame g s (Listed k) = []

-- what is kept of a session
abbrev pub kept_frames : Grammar → Site → List Frame → List SiteEvent
kept_frames g s [] = []
kept_frames g s (f ∷ fs) = kept_frame g s f ++ kept_frames g (handle g s f).site fs

-- the site after a session is that of its kept events
abbrev pub KeptEvents : Grammar → Type 0
KeptEvents g = (s : Site) (fs : List Frame) → site_after g s fs ≡ site_run g s (kept_frames g s fs)
