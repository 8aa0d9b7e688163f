-- What holds of every system, whatever crashes and whenever messages are carried.
use Rattle.std.specs.Prelude.{◌≡◌, ℕ, Bool, true, List, [], ◌∷◌, ◌++◌, map}
use Rattle.aw_list.specs.Members.{Member}
use Rattle.aw_term.specs.Choices.{Choice, Taken}
use Rattle.aw_term.specs.Rules.{Grammar}
use Rattle.aw_term.specs.Trees.{Never}
use Rattle.aw_term.specs.WellFormed.{Each}
use Rattle.aw_typed.specs.Types.{Types}
use Rattle.aw_typed.specs.TypeFaults.{arg_ok}
use Rattle.aw_law_sites.specs.Homes.{home}
use Rattle.aw_law_sites.specs.SiteEvents.{SiteEvent, Chose, all_events}
use Rattle.aw_law_sites.specs.Worlds.{World, empty_world, node_of, Reply, Answered, IsNew, Again, NoMessage, Move, step, MayCome, world_after}
use Rattle.aw_law_nodes.specs.Couriers.{IsPrefix}
use Rattle.aw_law_nodes.specs.Crashes.{Kept, FrailEvent, start_at, frail_run}
use Rattle.aw_law_nodes.specs.Crashes as crashes
use Rattle.aw_law_nodes.specs.Nodes.{Frame, Choose, Answers, handle}
use Rattle.aw_law_journals.specs.Journals.{IsJoint}
use Rattle.aw_law_system.specs.Systems.{Extent, System, node_at, Act, Asks, system_after, IsRun, IsWritten}

-- the choice is among the events that remain at the home of its node
abbrev pub Remains : Grammar → System → Choice → Type 0
Remains g s c = Member (Chose c) (node_at s (home g (node_of c))).events

-- the list has the choices that remain, and no others
abbrev pub AreRemaining : Grammar → System → List Choice → Type 0
AreRemaining g s cs = (c : Choice) → (Member c cs → Remains g s c) × (Remains g s c → Member c cs)

-- a choice that is taken, or a message that is new
abbrev pub IsEvent : Reply → Type 0
IsEvent (Answered a) = a ≡ Taken
IsEvent IsNew = Unit {0}
IsEvent Again = Never
IsEvent NoMessage = Never

-- each move is one
abbrev pub AreEvents : Grammar → World → List Move → Type 0
AreEvents g w [] = Unit {0}
AreEvents g w (e ∷ es) = IsEvent (step g w e).reply × AreEvents g (step g w e).world es

-- These moves are the events that remain in a system, each role's in their order: of one world, whose sites the nodes have.
pub record IsLeft (g : Grammar) (loads : Bool) (s : System) (fs : List Move) : Type 0 where
  pub may_come : Each (MayCome g) fs
  pub events : AreEvents g (empty_world g loads) fs
  pub journals : (r : ℕ) → all_events g (empty_world g loads) r fs ≡ (node_at s r).events
  pub sites : (world_after g loads fs).sites ≡ map (λ (k : Kept). k.site) s.kept
  pub taken : AreRemaining g s (world_after g loads fs).taken

-- whatever happened, what remains is one world
abbrev pub SystemIsOneWorld : Grammar → Type 0
SystemIsOneWorld g = (loads : Bool) (as_ : List Act) → IsRun g loads as_ → (fs : List Move) × IsLeft g loads (system_after g loads as_) fs

-- the journals of all roles
abbrev pub journals_of : System → List (List SiteEvent)
journals_of s = map (λ (k : Kept). k.events) s.kept

-- where each choice that remains fits the types, the journals of all roles have an order in which their events can have come
abbrev pub JournalsAreJoint : Types → Grammar → Type 0
JournalsAreJoint t g = (as_ : List Act) → IsRun g true as_ →
    ((c : Choice) → Remains g (system_after g true as_) c → arg_ok t g c ≡ true) →
    (fs : List Move) × IsLeft g true (system_after g true as_) fs × IsJoint t g (journals_of (system_after g true as_)) fs

-- its nodes are those of a world with crashes in which no site that goes back loses an event that sent a delivered message
abbrev pub CrashesAreAllowed : Grammar → Type 0
CrashesAreAllowed g = (loads : Bool) (as_ : List Act) → IsRun g loads as_ →
    (es : List FrailEvent) × crashes.AreAllowed g loads (start_at g loads) es
    × ((frail_run g loads (start_at g loads) es).kept ≡ (system_after g loads as_).kept)

-- the events that a role has when a byte of a reply is written stay its first events, whatever happens later
abbrev pub WrittenStays : Grammar → Type 0
WrittenStays g = (loads : Bool) (as_ later : List Act) (r : ℕ) (f : Frame) (x : Extent) → IsWritten x → IsRun g loads (as_ ++ Asks r f x ∷ later) →
    IsPrefix (node_at (system_after g loads (as_ ++ Asks r f x ∷ [])) r).events (node_at (system_after g loads (as_ ++ Asks r f x ∷ later)) r).events

-- so each choice remains that was taken, and of whose answer a byte was written
abbrev pub TakenRemains : Grammar → Type 0
TakenRemains g = (loads : Bool) (as_ later : List Act) (r : ℕ) (c : Choice) (x : Extent) → IsWritten x →
    IsRun g loads (as_ ++ Asks r (Choose c) x ∷ later) →
    (handle g (node_at (system_after g loads as_) r).site (Choose c)).response ≡ Answers Taken →
    Remains g (system_after g loads (as_ ++ Asks r (Choose c) x ∷ later)) c
