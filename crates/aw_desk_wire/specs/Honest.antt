-- What all sessions of a wire were, from the desks with which it began.
use Rattle.std.specs.Prelude.{◌≡◌, ℕ, List, [], ◌∷◌, ◌++◌, Bool, Option, None, Some}
use Rattle.aw_msg.specs.Frames.{Frame}
use Rattle.aw_msg.specs.Pieces.{Yields, HasEnded, Splits}
use Rattle.aw_msg.specs.Streams.{Stream}
use Rattle.aw_out.specs.Wires.{Session, after_write}
use Rattle.aw_session.specs.Frames.{joined}
use Rattle.aw_desk_wire.specs.Asking.{AreAsked, IsAnswered}
use Rattle.aw_desk_wire.specs.Calls.{Calls, role_in, changed}

-- Each whole frame that was written in the session was asked of the desk of its role, and what was read begins the replies.
pub record IsHonest {D : Type 0} (answers : D → Frame → List ℕ → D → Type 0) (ds es : List D) (x : Session) : Type 0 where
  pub frames : List Frame
  pub replies : List (List ℕ)
  pub bad : Bool
  pub later : List ℕ
  pub splits : Splits x.written frames bad
  pub asked : AreAsked answers x.role ds es frames replies
  pub read : joined replies ≡ x.read ++ later

-- one session after the other
abbrev pub AreHonest : {D : Type 0} → (D → Frame → List ℕ → D → Type 0) → List D → List D → List Session → Type 0
AreHonest {D} answers ds es [] = es ≡ ds
AreHonest {D} answers ds es (x ∷ xs) = (ms : List D) × IsHonest answers ds ms x × AreHonest answers ms es xs

-- The same of the last session. Behind its whole frames these bytes are kept, and what was not read of the replies is left.
pub record IsLast {D : Type 0} (answers : D → Frame → List ℕ → D → Type 0) (ds es : List D) (kept : Stream) (x : Session) : Type 0 where
  pub frames : List Frame
  pub replies : List (List ℕ)
  pub yields : Yields x.written frames kept.bytes
  pub ended : HasEnded kept.failed kept.bytes
  pub asked : AreAsked answers x.role ds es frames replies
  pub read : joined replies ≡ x.read ++ x.left

-- if there was one
abbrev pub LastIs : {D : Type 0} → (D → Frame → List ℕ → D → Type 0) → List D → List D → Stream → Option Session → Type 0
LastIs {D} answers ds es kept None = es ≡ ds
LastIs {D} answers ds es kept (Some x) = IsLast answers ds es kept x

-- all sessions, from the first desks to the second ones
pub record WasHonest {D : Type 0} (answers : D → Frame → List ℕ → D → Type 0) (ds es : List D) (kept : Stream) (cs : Calls) : Type 0 where
  pub between : List D
  pub over : AreHonest answers ds between cs.over
  pub last : LastIs answers between es kept cs.last

-- These bytes were written in the last session: behind those that were kept, all whole frames were asked of the desk of its role, and the replies are left to read.
pub record IsWritten {D : Type 0} (answers : D → Frame → List ℕ → D → Type 0) (ds es : List D) (from to : Stream) (old new : Calls) (bytes : List ℕ) : Type 0 where
  pub replies : List ℕ
  pub answered : IsAnswered answers (role_in old.last) ds es (record from { bytes = from.bytes ++ bytes }) to replies
  pub told : new ≡ changed (after_write bytes replies) old
