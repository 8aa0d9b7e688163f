-- A courier that carried through crashes and found that all is quiet.
use Rattle.std.specs.Prelude.{◌≡◌, ℕ, ◌<◌, ◌≤◌, Bool, List, [], ◌∷◌, ◌++◌, map, length, Some}
use Rattle.aw_term.specs.Choices.{Choice, Taken, undivided}
use Rattle.aw_term.specs.Configs.{Config}
use Rattle.aw_term.specs.Rules.{Grammar}
use Rattle.aw_term.specs.Trees.{Never}
use Rattle.aw_law_sites.specs.Worlds.{Move, world_after}
use Rattle.aw_law_worlds.specs.Laws.{HoldsConfig}
use Rattle.aw_law_nodes.specs.Couriers.{Heard, hear, Session, turn_room, flat, IsQuietCall}
use Rattle.aw_law_nodes.specs.Nodes.{Frame, Pull, Answers, handle}
use Rattle.aw_law_settling.specs.Still.{IsStill}
use Rattle.aw_law_system.specs.Systems as systems
use Rattle.aw_law_system.specs.Systems.{System, node_at, safe_at, Act, Asks, act, system_after, IsRun}
use Rattle.aw_law_system.specs.Laws.{AreRemaining, IsLeft}

-- what one courier asked, and heard the whole reply to; or any other act, a crash too
pub data Deed : Type 0 where
  Mine : (role : ℕ) (frame : Frame) → Deed
  Others : (act : Act) → Deed

-- as an act
abbrev pub act_of : Deed → Act
act_of (Mine r f) = Asks r f systems.Heard
act_of (Others a) = a

-- a frame, the role that it was asked of, and what was heard
pub record Exchange : Type 0 where
  pub role : ℕ
  pub frame : Frame
  pub heard : Heard

-- the exchanges of one session
abbrev pub exchanges : ℕ → List Frame → List Heard → List Exchange
exchanges r [] xs = []
exchanges r (f ∷ fs) [] = []
exchanges r (f ∷ fs) (x ∷ xs) = record { role = r; frame = f; heard = x } ∷ exchanges r fs xs

-- the exchanges of these sessions
abbrev pub all_exchanges : List Session → List Exchange
all_exchanges [] = []
all_exchanges (s ∷ ss) = exchanges s.role s.asked s.heard ++ all_exchanges ss

-- what the courier asked and heard in a system, while all of this happened
abbrev pub exchanged : Grammar → Bool → System → List Deed → List Exchange
exchanged g loads s [] = []
exchanged g loads s (Mine r f ∷ ds) =
    record { role = r; frame = f; heard = hear (handle g (node_at s r).site f).response } ∷ exchanged g loads (act g loads s (act_of (Mine r f))) ds
exchanged g loads s (Others a ∷ ds) = exchanged g loads (act g loads s a) ds

-- it takes no choice
abbrev pub TakesNone : Grammar → System → Act → Type 0
TakesNone g s (Asks r f x) = (handle g (node_at s r).site f).response ≡ Answers Taken → Never
TakesNone g s (systems.Crashes r n) = Unit {0}

-- none of these does
abbrev pub NoneTaken : Grammar → Bool → System → List Act → Type 0
NoneTaken g loads s [] = Unit {0}
NoneTaken g loads s (a ∷ as_) = TakesNone g s a × NoneTaken g loads (act g loads s a) as_

-- The system is at rest: no crash takes anything any more, and what remains is a still world, which holds the undivided configuration of the choices
-- that remain.
pub record IsAtRest (g : Grammar) (loads : Bool) (s : System) : Type 0 where
  pub safe : (r : ℕ) → r < g.roles → safe_at s r ≡ length (node_at s r).events
  pub moves : List Move
  pub left : IsLeft g loads s moves
  pub still : IsStill g (world_after g loads moves)
  pub holds : (cs : List Choice) → AreRemaining g s cs → (c : Config) → undivided g [] cs ≡ Some c → HoldsConfig g (world_after g loads moves) c

-- Where a courier answers Quiet, whatever happened before it and between its frames, and no choice was taken since its last round began, the system is at
-- rest: as soon as it answers, and for as long as no choice is taken.
abbrev pub QuietIsAtRest : Grammar → Type 0
QuietIsAtRest g = (size : Frame → ℕ) → ((p : ℕ) → size (Pull p) ≤ turn_room) → (loads : Bool) (before : List Act) (rounds_on last_on : List Deed) →
    (rounds : List (List Session)) (last : List Session) → IsQuietCall size g rounds last →
    IsRun g loads (before ++ (map act_of rounds_on ++ map act_of last_on)) →
    exchanged g loads (system_after g loads before) rounds_on ≡ all_exchanges (flat rounds) →
    exchanged g loads (system_after g loads (before ++ map act_of rounds_on)) last_on ≡ all_exchanges last →
    NoneTaken g loads (system_after g loads (before ++ map act_of rounds_on)) (map act_of last_on) →
    IsAtRest g loads (system_after g loads (before ++ (map act_of rounds_on ++ map act_of last_on)))
