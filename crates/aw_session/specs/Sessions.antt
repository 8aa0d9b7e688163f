-- Several sessions, one after the other.
use Rattle.std.specs.Prelude.{◌≡◌, ℕ, List, [], ◌∷◌, ◌++◌, Bool, true, false, ◌||◌, Option, None, Some, option_to_list}
use Rattle.aw_out.specs.Causes.{Rose}
use Rattle.aw_out.specs.Wires.{Session, Content, Both}
use Rattle.aw_msg.specs.Frames.{Frame}
use Rattle.aw_session.specs.Broken.{IsStopped}
use Rattle.aw_session.specs.Served.{AreServed, IsServed}
use Rattle.aw_session.specs.Talking.{Counts}
use Rattle.aw_session.specs.declared.log.How.{How}
use Rattle.aw_session.specs.declared.log.How.TheVariants.{End, Cut, Bad, Long, Fault}
use Rattle.aw_session.specs.declared.log.SessionLog.{SessionLog}
use Rattle.aw_session.specs.declared.serving.Stopped.{Stopped}
use Rattle.aw_session.specs.declared.serving.Stopped.TheVariants.{NetFault, Node}

-- whether a read or a write failed in the session
abbrev pub is_fault : How → Bool
is_fault Fault = true
is_fault End = false
is_fault Cut = false
is_fault Bad = false
is_fault Long = false

-- whether one did in some session
abbrev pub has_fault : List SessionLog → Bool
has_fault [] = false
has_fault (l ∷ ls) = is_fault l.how || has_fault ls

-- these sessions came and no other
abbrev pub Follow : List Session → Content → Content → Type 0
Follow sessions old new = new.passed ≡ old.passed ++ sessions

-- These sessions were served, none was dialed, and the count of faults rose exactly where one of them broke off.
pub record IsServing {S W : Type 0} (answers : S → Frame → List ℕ → S → Type 0) (content : W → Option Content) (faults failed_openings : W → ℕ)
    (role : ℕ) (s t : S) (u v : W) (log : List SessionLog) : Type 0 where
  pub sessions : List Session
  pub served : AreServed answers role s sessions log t
  pub told : Both (Follow sessions) (content u) (content v)
  pub counts : Counts (has_fault log) (faults u) (faults v)
  pub openings : failed_openings v ≡ failed_openings u

-- no session comes any more, where that is told
abbrev pub NoneComes : Option Content → Type 0
NoneComes None = Unit {0}
NoneComes (Some c) = c.coming ≡ 0

-- Sessions were served, and then none could be opened: the count of failed openings rose.
pub record IsUnopened {S W : Type 0} (answers : S → Frame → List ℕ → S → Type 0) (content : W → Option Content) (failed_openings : W → ℕ) (role : ℕ) (s t : S) (u v : W) : Type 0 where
  pub log : List SessionLog
  pub sessions : List Session
  pub served : AreServed answers role s sessions log t
  pub told : Both (Follow sessions) (content u) (content v)
  pub rose : Rose (failed_openings u) (failed_openings v)

-- the session in which a frame got no reply, if one was open
abbrev pub LastStops : {S F : Type 0} → (S → Frame → List ℕ → S → Type 0) → (S → Frame → F → S → Type 0) → ℕ → S → S → F → Option Session → Type 0
LastStops {S} {F} answers breaks role m t fault None = t ≡ m
LastStops {S} {F} answers breaks role m t fault (Some x) = (x.role ≡ role) × (x.dialed ≡ false) × (x.failed ≡ false) × IsStopped answers breaks m t x.read x.written fault

-- Sessions were served, and in the last one a frame got no reply, or there was no memory for one more session.
pub record IsCutOff {S W F : Type 0} (answers : S → Frame → List ℕ → S → Type 0) (breaks : S → Frame → F → S → Type 0) (content : W → Option Content)
    (role : ℕ) (s t : S) (u v : W) (fault : F) : Type 0 where
  pub log : List SessionLog
  pub sessions : List Session
  pub last : Option Session
  pub between : S
  pub served : AreServed answers role s sessions log between
  pub stops : LastStops answers breaks role between t fault last
  pub told : Both (Follow (sessions ++ option_to_list last)) (content u) (content v)

-- why no further session was served
abbrev pub StopsServing : {S W F : Type 0} → (S → Frame → List ℕ → S → Type 0) → (S → Frame → F → S → Type 0) → (W → Option Content) → (W → ℕ) → ℕ → S → S → W → W → Stopped F → Type 0
StopsServing {S} {W} {F} answers breaks content failed_openings role s t u v NetFault = IsUnopened answers content failed_openings role s t u v
StopsServing {S} {W} {F} answers breaks content failed_openings role s t u v (Node fault) = IsCutOff answers breaks content role s t u v fault

-- the next session was served, and this is its log
pub record IsNext {S W : Type 0} (answers : S → Frame → List ℕ → S → Type 0) (content : W → Option Content) (faults failed_openings : W → ℕ)
    (role : ℕ) (s t : S) (u v : W) (entry : SessionLog) : Type 0 where
  pub session : Session
  pub role_is : session.role ≡ role
  pub came : session.dialed ≡ false
  pub served : IsServed answers s t session.read session.written session.failed session.left entry
  pub told : Both (Follow (session ∷ [])) (content u) (content v)
  pub counts : Counts (is_fault entry.how) (faults u) (faults v)
  pub openings : failed_openings v ≡ failed_openings u

-- no session came
pub record IsLast {S W : Type 0} (content : W → Option Content) (faults failed_openings : W → ℕ) (s t : S) (u v : W) : Type 0 where
  pub same : t ≡ s
  pub none : NoneComes (content v)
  pub told : Both (Follow []) (content u) (content v)
  pub counts : faults v ≡ faults u
  pub openings : failed_openings v ≡ failed_openings u

-- no session was opened, or a frame of it got no reply
abbrev pub StopsNext : {S W F : Type 0} → (S → Frame → List ℕ → S → Type 0) → (S → Frame → F → S → Type 0) → (W → Option Content) → (W → ℕ) → ℕ → S → S → W → W → Stopped F → Type 0
StopsNext {S} {W} {F} answers breaks content failed_openings role s t u v NetFault =
    (t ≡ s) × Both (Follow []) (content u) (content v) × Rose (failed_openings u) (failed_openings v)
StopsNext {S} {W} {F} answers breaks content failed_openings role s t u v (Node fault) =
    (last : Option Session) × LastStops answers breaks role s t fault last × Both (Follow (option_to_list last)) (content u) (content v)

-- a session was served and is noted, or none came
abbrev pub ServesNext : {S W : Type 0} → (S → Frame → List ℕ → S → Type 0) → (W → Option Content) → (W → ℕ) → (W → ℕ) → ℕ → S → S → W → W → List SessionLog → List SessionLog → Bool → Type 0
ServesNext {S} {W} answers content faults failed_openings role s t u v old new true =
    (entry : SessionLog) × (new ≡ old ++ entry ∷ []) × IsNext answers content faults failed_openings role s t u v entry
ServesNext {S} {W} answers content faults failed_openings role s t u v old new false = (new ≡ old) × IsLast content faults failed_openings s t u v
