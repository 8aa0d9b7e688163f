-- What a session is: the bytes read and written in it, the frames that were answered, and how it ended.
use Rattle.std.specs.Prelude.{◌≡◌, ◌≢◌, ℕ, ◌<◌, ◌≤◌, List, [], ◌∷◌, ◌++◌, Bool, true, false, length, take, Err}
use Rattle.aw_out.specs.Wires.{Session}
use Rattle.aw_codec.specs.Reading.{Short}
use Rattle.aw_msg.specs.Frames.{Frame, frame}
use Rattle.aw_msg.specs.Pieces.{Yields, IsBad}
use Rattle.aw_session.specs.Frames.{joined, AreAnswered, IsCutShort}
use Rattle.aw_session.specs.declared.log.How.{How}
use Rattle.aw_session.specs.declared.log.How.TheVariants.{End, Cut, Bad, Long, Fault}
use Rattle.aw_session.specs.declared.log.SessionLog.{SessionLog}

-- the most bytes that may be read in a session
abbrev pub limit : ℕ
limit = 67108864

-- the reply to the byte past the limit, and to what is no frame
abbrev pub too_long : List ℕ
too_long = 8 ∷ 0 ∷ 0 ∷ 0 ∷ 0 ∷ []

-- the reply to what is no frame
abbrev pub bad_frame : List ℕ
bad_frame = 9 ∷ 0 ∷ 0 ∷ 0 ∷ 0 ∷ []

-- the reply with which a session ends, if it has one
abbrev pub closing : How → List (List ℕ)
closing Bad = bad_frame ∷ []
closing Long = too_long ∷ []
closing End = []
closing Cut = []
closing Fault = []

-- What was read ends so behind these frames: with the last of them, within the next one, where none can stand, or at the limit.
abbrev pub EndsSo : How → List ℕ → List Frame → Type 0
EndsSo End read frames = Yields read frames [] × (length read ≤ limit)
EndsSo Cut read frames = (rest : List ℕ) × Yields read frames rest × (rest ≢ []) × (frame rest ≡ Err Short) × (length read ≤ limit)
EndsSo Bad read frames = (rest : List ℕ) × Yields (take limit read) frames rest × IsBad (frame rest)
EndsSo Long read frames = (rest : List ℕ) × Yields (take limit read) frames rest × (frame rest ≡ Err Short) × (limit < length read)
EndsSo Fault read frames = ⊥

-- How a session broke off. Where a read failed all whole frames were answered, and the replies written whole; else the reply to the last frame, or the one with
-- which the session was to end, was written in part, and those before it whole.
pub data BreaksOff (read written : List ℕ) (frames : List Frame) (replies : List (List ℕ)) : Type 0 where
  Reading : (rest : List ℕ) → Yields read frames rest → frame rest ≡ Err Short → length read ≤ limit → written ≡ joined replies → BreaksOff read written frames replies
  Replying : (rest : List ℕ) → Yields (take limit read) frames rest → IsCutShort replies written → BreaksOff read written frames replies
  Ending : (how : How) → closing how ≢ [] → EndsSo how read frames → IsCutShort (replies ++ closing how) written → BreaksOff read written frames replies

-- a session that did not break off wrote all its replies whole
abbrev pub Ends : How → List ℕ → List ℕ → Bool → List Frame → List (List ℕ) → Type 0
Ends Fault read written failed frames replies = (failed ≡ true) × BreaksOff read written frames replies
Ends how read written failed frames replies = (failed ≡ false) × EndsSo how read frames × (written ≡ joined (replies ++ closing how))

-- a session that is told as `end` or as `cut` ended where its input does: it left nothing unread
abbrev pub LeavesNone : How → List ℕ → Type 0
LeavesNone End left = left ≡ []
LeavesNone Cut left = left ≡ []
LeavesNone Bad left = Unit {0}
LeavesNone Long left = Unit {0}
LeavesNone Fault left = Unit {0}

-- A session that was served, by the bytes that were read and written in it, whether a call failed, and what it left unread. From the one workspace the
-- frames that the log counts were answered, and it is the other then.
pub record IsServed {S : Type 0} (answers : S → Frame → List ℕ → S → Type 0) (s t : S) (read written : List ℕ) (failed : Bool) (left : List ℕ) (log : SessionLog) : Type 0 where
  pub frames : List Frame
  pub replies : List (List ℕ)
  pub answered : AreAnswered answers s frames replies t
  pub counted : log.frames ≡ length frames
  pub ends : Ends log.how read written failed frames replies
  pub none_left : LeavesNone log.how left

-- one session after the other, each with this role and none dialed
abbrev pub AreServed : {S : Type 0} → (S → Frame → List ℕ → S → Type 0) → ℕ → S → List Session → List SessionLog → S → Type 0
AreServed {S} answers role s [] [] t = t ≡ s
AreServed {S} answers role s [] (l ∷ ls) t = ⊥
AreServed {S} answers role s (x ∷ xs) [] t = ⊥
AreServed {S} answers role s (x ∷ xs) (l ∷ ls) t =
    (m : S) × (x.role ≡ role) × (x.dialed ≡ false) × IsServed answers s m x.read x.written x.failed x.left l × AreServed answers role m xs ls t
