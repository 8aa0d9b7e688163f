-- What a run of the program tells at its ends, as sessions of a kept node: the run can be cut behind any of its frames.
use Rattle.std.specs.Prelude.{◌≡◌, ℕ, ◌<◌, ◌≤◌, Bool, List, [], ◌++◌, IsTrue, length}
use Rattle.aw_out.specs.declared.edge.Wire as wires
use Rattle.aw_law_sites.specs.Sites.{empty_site}
use Rattle.aw_law_system.specs.Systems.{Extent}
use Rattle.aw_msg.specs.Frames.{Frame}
use Rattle.aw_session.specs.declared.log.SessionLog.{SessionLog}
use Rattle.aw_disk.specs.declared.edge.Disk.{Ghosts}
use Rattle.aw_journal.specs.Events.{Event}
use Rattle.aw_journal.specs.declared.journal.AppendFault.{AppendFault}
use Rattle.aw_node.specs.TypedNodes.{Rules}
use Rattle.aw_kept_node.specs.KeptSites.{KeptSite, reopened}
use Rattle.aw_kept_node.specs.Laws.{after_frames}
use Rattle.aw_kept_node.specs.Serving.{IsKeptServing, IsKeptUnopened, IsKeptCutOff}
use Rattle.aw_law_kept_system.specs.KeptSystems.{Session, IsSession, stop_of}

-- One cut of a run that ended on this disk: it is a session from the one site to the other, in which the replies to the first frames got so far, and no byte was
-- written of those to the frames behind.
pub record IsCut {D : Type 0} (d : Ghosts D) (r : Rules) (role : ℕ) (start stop : KeptSite) (end : D) (front : List Frame) (reached : List Extent) (behind : List Frame) : Type 0 where
  pub session : Session D
  pub same_role : session.role ≡ role
  pub same_end : session.end ≡ end
  pub asked : session.frames ≡ front
  pub reach : session.reached ≡ reached
  pub rest : session.unwritten ≡ behind
  pub is_session : IsSession d r start session
  pub stops : stop_of r session ≡ stop

-- These frames were answered from the one site to the other, and these were in hand at the end and got no reply. Wherever the answered ones are cut, and however
-- far the replies to those before the cut got, it is a session.
abbrev pub IsRunOf : {D : Type 0} → Ghosts D → Rules → ℕ → KeptSite → KeptSite → D → List Frame → List Frame → Type 0
IsRunOf {D} d r role start stop end answered in_hand = (front back : List Frame) (reached : List Extent) → answered ≡ front ++ back → length reached ≡ length front →
    IsCut d r role start (after_frames r stop in_hand) end front reached (back ++ in_hand)

-- so a run went on from the events that the journal had
abbrev pub RunsFrom : {D : Type 0} → Ghosts D → Rules → Bool → ℕ → List Event → KeptSite → D → List Frame → List Frame → Type 0
RunsFrom {D} d r loads role events stop end answered in_hand = IsRunOf d r role (reopened r (empty_site loads role) events) stop end answered in_hand

-- what `serve_kept` tells where it served sessions
abbrev pub ServedAreSessions : {W D : Type 0} → wires.Ghosts W → Ghosts D → Type 0
ServedAreSessions {W} {D} w d = (r : Rules) (loads : Bool) (role : ℕ) (text : List ℕ) (u v : W) (old new : D) (log : List SessionLog) → role < r.grammar.roles → IsTrue (d.tells old) →
    (x : IsKeptServing w d r role text (empty_site loads role) u v old new log) → (answered : List Frame) × RunsFrom d r loads role x.events x.after.kept new answered []

-- where none could be opened any more
abbrev pub UnopenedAreSessions : {W D : Type 0} → wires.Ghosts W → Ghosts D → Type 0
UnopenedAreSessions {W} {D} w d = (r : Rules) (loads : Bool) (role : ℕ) (text : List ℕ) (u v : W) (old new : D) → role < r.grammar.roles → IsTrue (d.tells old) →
    (x : IsKeptUnopened w d r role text (empty_site loads role) u v old new) → (answered : List Frame) × RunsFrom d r loads role x.events x.after.kept new answered []

-- and where a frame got no reply: at most that one is in hand
abbrev pub CutOffAreSessions : {W D : Type 0} → wires.Ghosts W → Ghosts D → Type 0
CutOffAreSessions {W} {D} w d = (r : Rules) (loads : Bool) (role : ℕ) (text : List ℕ) (u v : W) (old new : D) (fault : AppendFault) → role < r.grammar.roles → IsTrue (d.tells old) →
    (x : IsKeptCutOff w d r role text (empty_site loads role) u v old new fault) →
    (answered : List Frame) × (in_hand : List Frame) × (length in_hand ≤ 1) × RunsFrom d r loads role x.events x.after.kept new answered in_hand
