-- What the node of a role leads to that survives crashes.
use Rattle.std.specs.Prelude.{◌≡◌, ◌⊎◌, ◌≤◌, ℕ, List, true, length, Some}
use Rattle.aw_law_sites.specs.Sites.{empty_site}
use Rattle.aw_session.specs.Sessions.{NoneComes}
use Rattle.aw_session.specs.declared.log.SessionLog.{SessionLog}
use Rattle.aw_kept_node.specs.Serving.{IsKeptServing, StopsKept}
use Rattle.aw_kept_node.specs.declared.fault.KeptFault.{KeptFault}
use Rattle.aw_kept_node.specs.declared.fault.KeptFault.TheVariants as fault
use Rattle.aw_spec.specs.Reading.{Spec}
use Rattle.aw_spec_writer.specs.SpecLines.{written}
use Rattle.aw_front.specs.declared.reply.Status.{Status}
use Rattle.aw_front.specs.declared.reply.Status.TheVariants.{NetFault, NoMemory, DiskFault, BadJournal, JournalFull, ReadFault}
use Rattle.aw_run.specs.Devices.{Devices}
use Rattle.aw_run.specs.Opening.{OpensRole}
use Rattle.aw_front.specs.Output.{Output, Writes, OfAccepted}
use Rattle.aw_run.specs.Serving.{rules_in, role_in, session_lines, ByNumber}

-- So many sessions were served, or as many as came, from the site that the events of the journal make; each frame was answered at a moment of the disk
-- since which no crash loses its event, what a crash leaves at any moment is told, and the sessions are written.
pub record KeepsRole (s : Spec) (role sessions : ℕ) (x : Devices) (output : Output) : Type 0 where
  pub logs : List SessionLog
  pub kept : IsKeptServing x.wire x.disk (rules_in s) role (written s) (empty_site true role) x.wire_before x.wire_after x.disk_before x.disk_after logs
  pub most : length logs ≤ sessions
  pub all : (length logs ≡ sessions) ⊎ NoneComes (x.wire.content x.wire_after)
  pub writes : output ≡ Writes (session_lines 1 logs)

-- the role of that name is kept and served, where one is declared
abbrev pub KeepsNamed : (name : List ℕ) → (sessions : ℕ) → Devices → Spec → Output → Type 0
KeepsNamed name sessions x s = ByNumber (λ role. KeepsRole s role sessions x) (role_in s name)

-- The output of the kept node of a role for an input.
unfoldable pub IsKeepingOutputOf : (name : List ℕ) → (sessions : ℕ) → Devices → List ℕ → Output → Type 0
IsKeepingOutputOf name sessions x input output = OfAccepted (KeepsNamed name sessions x) input output

-- serving the role came to an end by this fault, and what a crash leaves at any moment is told
abbrev pub EndsBy : Spec → (role : ℕ) → Devices → KeptFault → Type 0
EndsBy s role x why = StopsKept x.wire x.disk (rules_in s) role (written s) (empty_site true role) x.wire_before x.wire_after x.disk_before x.disk_after why

-- Why a kept role was served no further, by the status that tells it. Memory may also have run out for the lines, once all sessions were served.
abbrev pub StopsRole : Spec → (role sessions : ℕ) → Devices → Status → Type 0
StopsRole s role sessions x NetFault = EndsBy s role x fault.NetFault
StopsRole s role sessions x DiskFault = EndsBy s role x fault.DiskFault
StopsRole s role sessions x BadJournal = EndsBy s role x fault.BadHead ⊎ ((number : ℕ) × EndsBy s role x (fault.BadEvent number))
StopsRole s role sessions x JournalFull = EndsBy s role x fault.Full
StopsRole s role sessions x NoMemory = EndsBy s role x fault.NoMemory ⊎ ((output : Output) × KeepsRole s role sessions x output)
StopsRole s role sessions x _ = ⊥

-- the source failed or memory ran out before the wire and the disk were touched
pub record StopsBefore (x : Devices) (status : Status) : Type 0 where
  pub why : (status ≡ ReadFault) ⊎ (status ≡ NoMemory)
  pub same_wire : x.wire_after ≡ x.wire_before
  pub same_disk : x.disk_after ≡ x.disk_before

-- the kept role of that name came to a stop, or memory ran out before anything was touched
abbrev pub StopsNamed : (name : List ℕ) → (sessions : ℕ) → Devices → Spec → Status → Type 0
StopsNamed name sessions x s status = StopsBefore x status ⊎ ((role : ℕ) × (role_in s name ≡ Some role) × StopsRole s role sessions x status)

-- why the kept node of a role came to a stop, and how it left the wire and the disk
abbrev pub StopsKeeping : (name : List ℕ) → (sessions : ℕ) → Devices → List ℕ → Status → Type 0
StopsKeeping name sessions x input status =
    StopsBefore x status ⊎ ((s : Spec) × (role : ℕ) × OpensRole name input s role × StopsRole s role sessions x status)
