-- Sessions that ended because a frame got no reply, as where memory runs out.
use Rattle.std.specs.Prelude.{◌≡◌, ℕ, List, take, Ok}
use Rattle.aw_msg.specs.Frames.{Frame, frame}
use Rattle.aw_msg.specs.Pieces.{Yields}
use Rattle.aw_session.specs.Frames.{joined, AreAnswered}
use Rattle.aw_session.specs.Served.{limit}

-- what came to a stop: the reading, after which the workspace is as it was, or a reply to the next frame
pub data StopsAt {S F : Type 0} (breaks : S → Frame → F → S → Type 0) (rest : List ℕ) (m : S) (fault : F) (t : S) : Type 0 where
  Reading : t ≡ m → StopsAt breaks rest m fault t
  Replying : (f : Frame) (behind : List ℕ) → frame rest ≡ Ok (f, behind) → breaks m f fault t → StopsAt breaks rest m fault t

-- the frames before that were answered, their replies were written whole, and nothing else
pub record IsStopped {S F : Type 0} (answers : S → Frame → List ℕ → S → Type 0) (breaks : S → Frame → F → S → Type 0) (s t : S) (read written : List ℕ) (fault : F) : Type 0 where
  pub frames : List Frame
  pub replies : List (List ℕ)
  pub between : S
  pub rest : List ℕ
  pub answered : AreAnswered answers s frames replies between
  pub yields : Yields (take limit read) frames rest
  pub written_is : written ≡ joined replies
  pub stops : StopsAt breaks rest between fault t

-- a frame that gets no reply leaves the workspace as it is
abbrev pub Stays : {P F : Type 0} → P → Frame → F → P → Type 0
Stays {P} {F} s f fault t = t ≡ s
