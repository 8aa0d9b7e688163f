-- The course of one session. `answers` tells what a reply does, and `talks` what went over the wire from one moment to another.
use Rattle.std.specs.Prelude.{◌≡◌, ℕ, ◌<◌, ◌≤◌, List, Bool, true, false, length, take, Option, None, Some, Err}
use Rattle.aw_out.specs.Wires.{Content, unread}
use Rattle.aw_codec.specs.Reading.{Short}
use Rattle.aw_msg.specs.Frames.{Frame, frame}
use Rattle.aw_msg.specs.Pieces.{Yields}
use Rattle.aw_msg.specs.Streams.{Stream}
use Rattle.aw_session.specs.Broken.{IsStopped}
use Rattle.aw_session.specs.Frames.{joined, AreAnswered}
use Rattle.aw_session.specs.Served.{limit, IsServed}
use Rattle.aw_session.specs.declared.log.How.{How}
use Rattle.aw_session.specs.declared.log.How.TheVariants.{Fault}
use Rattle.aw_session.specs.declared.log.SessionLog.{SessionLog}

-- The session goes on: all whole frames so far were answered and their replies written, and less than a frame is kept.
pub record IsGoing {S W : Type 0} (answers : S → Frame → List ℕ → S → Type 0) (talks : W → W → List ℕ → List ℕ → Bool → Type 0) (s t : S) (u v : W) (kept : Stream) (total count : ℕ) : Type 0 where
  pub read : List ℕ
  pub frames : List Frame
  pub replies : List (List ℕ)
  pub answered : AreAnswered answers s frames replies t
  pub yields : Yields read frames kept.bytes
  pub short : frame kept.bytes ≡ Err Short
  pub sound : kept.failed ≡ false
  pub counted : count ≡ length frames
  pub sized : total ≡ length read
  pub within : total ≤ limit
  pub talked : talks u v read (joined replies) false

-- the session has ended, and this is its log
pub record IsDone {S W : Type 0} (answers : S → Frame → List ℕ → S → Type 0) (talks : W → W → List ℕ → List ℕ → Bool → Type 0)
    (content : W → Option Content) (s t : S) (u v : W) (log : SessionLog) : Type 0 where
  pub read : List ℕ
  pub written : List ℕ
  pub failed : Bool
  pub talked : talks u v read written failed
  pub served : IsServed answers s t read written failed (unread (content v)) log

-- the session has stopped, since a frame got no reply
pub record IsHalted {S W F : Type 0} (answers : S → Frame → List ℕ → S → Type 0) (breaks : S → Frame → F → S → Type 0) (talks : W → W → List ℕ → List ℕ → Bool → Type 0)
    (s t : S) (u v : W) (fault : F) : Type 0 where
  pub read : List ℕ
  pub written : List ℕ
  pub talked : talks u v read written false
  pub stopped : IsStopped answers breaks s t read written fault

-- the session goes on, or has ended in this way
abbrev pub GoesOn : {S W : Type 0} → (S → Frame → List ℕ → S → Type 0) → (W → W → List ℕ → List ℕ → Bool → Type 0) → (W → Option Content) → S → S → W → W → Stream → ℕ → ℕ → Option How → Type 0
GoesOn {S} {W} answers talks content s t u v kept total count None = IsGoing answers talks s t u v kept total count
GoesOn {S} {W} answers talks content s t u v kept total count (Some how) = IsDone answers talks content s t u v (record { frames = count; how = how })

-- a closing reply was written whole, and the session ended so, or it was written in part
abbrev pub EndsWith : How → How → List ℕ → (List ℕ → Bool → Type 0) → Type 0
EndsWith Fault how reply talks = (n : ℕ) × (n < length reply) × talks (take n reply) true
EndsWith result how reply talks = (result ≡ how) × talks reply false
