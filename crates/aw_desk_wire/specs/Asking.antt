-- What the desk of a role is asked.
use Rattle.std.specs.Prelude.{◌≡◌, ◌⊎◌, ℕ, List, [], ◌∷◌, ◌++◌, Bool, true, false, Ok, Option, None, Some, slice_get, slice_set}
use Rattle.aw_msg.specs.Frames.{Frame, frame}
use Rattle.aw_msg.specs.Pieces.{Yields, HasEnded, IsSound}
use Rattle.aw_msg.specs.Streams.{Stream}
use Rattle.aw_session.specs.Frames.{joined, AreAnswered}

-- where there is a desk, these frames got these replies of it, and it is another then; else nothing is asked
abbrev pub AskedOf : {D : Type 0} → (D → Frame → List ℕ → D → Type 0) → ℕ → List D → Option D → List Frame → List (List ℕ) → List D → Type 0
AskedOf {D} answers role ds None frames replies es = (replies ≡ []) × (es ≡ ds)
AskedOf {D} answers role ds (Some d) frames replies es = (e : D) × AreAnswered answers d frames replies e × (es ≡ slice_set ds role e)

-- These frames were asked of the desk of a role, and these were the replies. Behind that the desks of all roles are the second ones.
abbrev pub AreAsked : {D : Type 0} → (D → Frame → List ℕ → D → Type 0) → ℕ → List D → List D → List Frame → List (List ℕ) → Type 0
AreAsked {D} answers role ds es frames replies = AskedOf answers role ds (slice_get ds role) frames replies es

-- where there is a desk of the role, it may be another; the others are as they were
abbrev pub ChangesOnly : {D : Type 0} → ℕ → List D → Option D → List D → Type 0
ChangesOnly {D} role ds None es = es ≡ ds
ChangesOnly {D} role ds (Some d) es = (e : D) × (es ≡ slice_set ds role e)

-- at most the desk of the role is another
abbrev pub OthersStay : {D : Type 0} → ℕ → List D → List D → Type 0
OthersStay {D} role ds es = ChangesOnly role ds (slice_get ds role) es

-- one frame was asked, and its reply added to a text
pub record IsAsked {D : Type 0} (answers : D → Frame → List ℕ → D → Type 0) (role : ℕ) (ds es : List D) (f : Frame) (old new : List ℕ) : Type 0 where
  pub replies : List (List ℕ)
  pub asked : AreAsked answers role ds es (f ∷ []) replies
  pub added : new ≡ old ++ joined replies

-- the next frame was asked, or no whole one is there and nothing was done
abbrev pub AsksNext : {D : Type 0} → (D → Frame → List ℕ → D → Type 0) → ℕ → List D → List D → Stream → Stream → List ℕ → List ℕ → Bool → Type 0
AsksNext {D} answers role ds es from to old new true = (f : Frame) × (frame from.bytes ≡ Ok (f, to.bytes)) × (to.failed ≡ false) × IsAsked answers role ds es f old new
AsksNext {D} answers role ds es from to old new false = (to.bytes ≡ from.bytes) × (IsSound from → HasEnded to.failed to.bytes) × (es ≡ ds) × (new ≡ old)

-- Memory ran out: nothing was done, or the next frame was asked of the desk of the role, and its reply is lost.
abbrev pub AsksInVain : {D : Type 0} → ℕ → List D → List D → List ℕ → Type 0
AsksInVain {D} role ds es bytes = (es ≡ ds) ⊎ ((f : Frame) × (later : List ℕ) × (frame bytes ≡ Ok (f, later)) × OthersStay role ds es)

-- the frames at the front of a stream were asked, and the text is all replies
pub record IsStretch {D : Type 0} (answers : D → Frame → List ℕ → D → Type 0) (role : ℕ) (ds es : List D) (from to : Stream) (text : List ℕ) : Type 0 where
  pub frames : List Frame
  pub replies : List (List ℕ)
  pub yields : Yields from.bytes frames to.bytes
  pub asked : AreAsked answers role ds es frames replies
  pub text_is : text ≡ joined replies

-- The frames at the front of these bytes were asked and got replies, and then memory ran out, perhaps at one more frame. The desks of other roles are as they were.
pub record IsStarved {D : Type 0} (answers : D → Frame → List ℕ → D → Type 0) (role : ℕ) (ds es : List D) (bytes : List ℕ) : Type 0 where
  pub frames : List Frame
  pub replies : List (List ℕ)
  pub rest : List ℕ
  pub between : List D
  pub yields : Yields bytes frames rest
  pub asked : AreAsked answers role ds between frames replies
  pub last : AsksInVain role between es rest

-- these were all its whole frames, if no frame stood ahead of what is none
pub record IsAnswered {D : Type 0} (answers : D → Frame → List ℕ → D → Type 0) (role : ℕ) (ds es : List D) (from to : Stream) (text : List ℕ) : Type 0 where
  pub stretch : IsStretch answers role ds es from to text
  pub ended : IsSound from → HasEnded to.failed to.bytes
