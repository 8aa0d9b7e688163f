-- The frames of some bytes, however they came.
use Rattle.std.specs.Prelude.{◌≡◌, ℕ, Bool, true, false, List, [], ◌∷◌, ◌++◌, Result, Ok, Err}
use Rattle.aw_codec.specs.Reading.{Fault, Short, Bad}
use Rattle.aw_msg.specs.Frames.{Frame, frame}
use Rattle.aw_msg.specs.Streams.{Stream}

-- these frames stand at the front, one behind the other, and then the rest
abbrev pub Yields : List ℕ → List Frame → List ℕ → Type 0
Yields bytes [] rest = bytes ≡ rest
Yields bytes (f ∷ fs) rest = (more : List ℕ) × (frame bytes ≡ Ok (f, more)) × Yields more fs rest

-- what stands there is no frame, however it goes on
abbrev pub IsBad : Result (Frame × List ℕ) Fault → Type 0
IsBad read = (left : ℕ) × (read ≡ Err (Bad left))

-- no frame follows: none can stand there, or less than one is there
abbrev pub HasEnded : Bool → List ℕ → Type 0
HasEnded true rest = IsBad (frame rest)
HasEnded false rest = frame rest ≡ Err Short

-- the bytes are these frames, and then what is no frame or less than one
pub record Splits (bytes : List ℕ) (frames : List Frame) (bad : Bool) : Type 0 where
  pub rest : List ℕ
  pub yields : Yields bytes frames rest
  pub ended : HasEnded bad rest

-- a stream that failed stands where no frame can stand
abbrev pub IsSound : Stream → Type 0
IsSound s = s.failed ≡ true → IsBad (frame s.bytes)

-- where a frame was taken it stood at the front of the old bytes and the new ones are behind it; else nothing was taken, and no frame follows
abbrev pub TakesOne : Bool → Stream → List Frame → Stream → List Frame → Type 0
TakesOne true old frames new more = (f : Frame) × (frame old.bytes ≡ Ok (f, new.bytes)) × (new.failed ≡ false) × (more ≡ frames ++ f ∷ [])
TakesOne false old frames new more = (new.bytes ≡ old.bytes) × HasEnded new.failed new.bytes × (more ≡ frames)
