-- What is answered of the bytes that are there.
use Rattle.std.specs.Prelude.{◌≡◌, ℕ, ◌<◌, List, [], Bool, true, false, length, take, Ok, Err}
use Rattle.aw_codec.specs.Reading.{Short}
use Rattle.aw_msg.specs.Frames.{Frame, frame}
use Rattle.aw_msg.specs.Pieces.{Yields, IsBad}
use Rattle.aw_msg.specs.Streams.{Stream}
use Rattle.aw_session.specs.Broken.{StopsAt}
use Rattle.aw_session.specs.Frames.{joined, AreAnswered, IsCutShort}
use Rattle.aw_session.specs.declared.answering.Went.{Went}
use Rattle.aw_session.specs.declared.answering.Went.TheVariants as went
use Rattle.aw_session.specs.declared.answering.Stop.{Stop}
use Rattle.aw_session.specs.declared.answering.Stop.TheVariants as stop

-- One frame was taken and answered. `talks` tells what was written, and whether a write failed.
pub record IsStep {S : Type 0} (answers : S → Frame → List ℕ → S → Type 0) (talks : List ℕ → Bool → Type 0) (s t : S) (from to : Stream) : Type 0 where
  pub request : Frame
  pub reply : List ℕ
  pub taken : frame from.bytes ≡ Ok (request, to.bytes)
  pub sound : to.failed ≡ false
  pub answered : answers s request reply t
  pub talked : talks reply false

-- one frame was taken and answered, and its reply was written in part
pub record IsBroken {S : Type 0} (answers : S → Frame → List ℕ → S → Type 0) (talks : List ℕ → Bool → Type 0) (s t : S) (from to : Stream) : Type 0 where
  pub request : Frame
  pub reply : List ℕ
  pub count : ℕ
  pub taken : frame from.bytes ≡ Ok (request, to.bytes)
  pub answered : answers s request reply t
  pub part : count < length reply
  pub talked : talks (take count reply) true

-- what became of the next frame
abbrev pub Goes : {S : Type 0} → (S → Frame → List ℕ → S → Type 0) → (List ℕ → Bool → Type 0) → S → S → Stream → Stream → Went → Type 0
Goes {S} answers talks s t from to went.Answered = IsStep answers talks s t from to
Goes {S} answers talks s t from to went.Waits = (frame from.bytes ≡ Err Short) × (to ≡ from) × (t ≡ s) × talks [] false
Goes {S} answers talks s t from to went.Bad = IsBad (frame from.bytes) × (to.bytes ≡ from.bytes) × (t ≡ s) × talks [] false
Goes {S} answers talks s t from to went.Broken = IsBroken answers talks s t from to

-- these frames were answered, and the replies written
pub record IsStretch {S : Type 0} (answers : S → Frame → List ℕ → S → Type 0) (talks : List ℕ → Bool → Type 0) (s t : S) (from to : List ℕ) (count : ℕ) : Type 0 where
  pub frames : List Frame
  pub replies : List (List ℕ)
  pub answered : AreAnswered answers s frames replies t
  pub yields : Yields from frames to
  pub counted : count ≡ length frames
  pub talked : talks (joined replies) false

-- how it stopped: less than a frame is left, none can stand next, or the last reply was written in part
abbrev pub StopsSo : (List ℕ → Bool → Type 0) → List ℕ → List (List ℕ) → Stop → Type 0
StopsSo talks to replies stop.Waits = (frame to ≡ Err Short) × talks (joined replies) false
StopsSo talks to replies stop.Bad = IsBad (frame to) × talks (joined replies) false
StopsSo talks to replies stop.Broken = (written : List ℕ) × IsCutShort replies written × talks written true

-- the frames that were answered before it stopped
pub record IsStoppedStretch {S : Type 0} (answers : S → Frame → List ℕ → S → Type 0) (talks : List ℕ → Bool → Type 0) (s t : S) (from to : List ℕ) (count : ℕ) (why : Stop) : Type 0 where
  pub frames : List Frame
  pub replies : List (List ℕ)
  pub answered : AreAnswered answers s frames replies t
  pub yields : Yields from frames to
  pub counted : count ≡ length frames
  pub stops : StopsSo talks to replies why

-- the frames that were answered before one got no reply
pub record IsHaltedStretch {S F : Type 0} (answers : S → Frame → List ℕ → S → Type 0) (breaks : S → Frame → F → S → Type 0) (talks : List ℕ → Bool → Type 0)
    (s t : S) (from : List ℕ) (fault : F) : Type 0 where
  pub frames : List Frame
  pub replies : List (List ℕ)
  pub between : S
  pub rest : List ℕ
  pub answered : AreAnswered answers s frames replies between
  pub yields : Yields from frames rest
  pub talked : talks (joined replies) false
  pub stops : StopsAt breaks rest between fault t
