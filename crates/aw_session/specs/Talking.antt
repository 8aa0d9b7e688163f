-- What goes over a wire while one session is open.
use Rattle.std.specs.Prelude.{◌≡◌, ℕ, ◌<◌, ◌≤◌, List, length, take, [], ◌++◌, Bool, true, false, ◌||◌, Option}
use Rattle.aw_out.specs.Causes.{Rose}
use Rattle.aw_out.specs.Wires.{Session, Content, Both, with_last}
use Rattle.aw_out.specs.declared.edge.Wire as wires

-- the session after these bytes were read and written in it, perhaps a call failed, and these bytes are left to read
abbrev pub grown : List ℕ → List ℕ → Bool → List ℕ → Session → Session
grown read written failed left s = record s { read = s.read ++ read; left = left; written = s.written ++ written; failed = s.failed || failed }

-- the last session has grown so, and no other came or will not come
abbrev pub Grows : List ℕ → List ℕ → Bool → Content → Content → Type 0
Grows read written failed old new = (left : List ℕ) × (new.passed ≡ with_last (grown read written failed left) old.passed) × (new.coming ≡ old.coming)

-- the count of faults rose exactly where a call failed
abbrev pub Counts : Bool → ℕ → ℕ → Type 0
Counts true old new = (old ≤ new) × Rose old new
Counts false old new = new ≡ old

-- In the open session these bytes were read and written, and perhaps a call failed. A wire is seen by its content, whether a session is open, and
-- its counts of faults and of failed openings.
pub record Talks {W : Type 0} (content : W → Option Content) (is_open : W → Bool) (faults failed_openings : W → ℕ) (old new : W) (read written : List ℕ) (failed : Bool) : Type 0 where
  pub stays : is_open new ≡ true
  pub told : Both (Grows read written failed) (content old) (content new)
  pub counts : Counts failed (faults old) (faults new)
  pub openings : failed_openings new ≡ failed_openings old

-- the same, where the wire is seen by what its trait says of it
abbrev pub TalksOver : {W : Type 0} → wires.Ghosts W → W → W → List ℕ → List ℕ → Bool → Type 0
TalksOver f old new = Talks f.content f.is_open f.faults f.failed_openings old new

-- of some bytes a prefix was written, but not all, and then a write failed
pub record TalksInPart {W : Type 0} (content : W → Option Content) (is_open : W → Bool) (faults failed_openings : W → ℕ) (old new : W) (bytes : List ℕ) : Type 0 where
  pub count : ℕ
  pub part : count < length bytes
  pub talks : Talks content is_open faults failed_openings old new [] (take count bytes) true
