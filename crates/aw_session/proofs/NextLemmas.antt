-- What a reader of requests tells of the bytes that are there.
use Rattle.std.proofs.Common.{◌≡◌, ℕ, Bool, true, false, List, Result, Ok, Err, refl, ap, subst, if◌then◌else◌}
use Rattle.aw_codec.specs.Reading.{Fault, Short, Bad}
use Rattle.aw_msg.specs.Frames.{Frame, frame}
use Rattle.aw_msg.specs.Pieces.{IsBad}
use Rattle.aw_msg.specs.Streams.{Stream, Need, Wrong, next_in, next_of, left_in, left_of}
use Rattle.aw_session.specs.Steps.{Goes}
use Rattle.aw_session.specs.declared.answering.Went.{Went}

need-is : (failed : Bool) (bytes : List ℕ) (read : Result (Frame × List ℕ) Fault) (t : Stream) → Need ≡ (if failed then Wrong else next_in read)
    → t ≡ (if failed then record { bytes = bytes; failed = failed } else left_in (record { bytes = bytes; failed = failed }) read) →
    (read ≡ Err Short) × (t ≡ record { bytes = bytes; failed = failed })
need-is true bytes read t e h = absurd (cc e)
need-is false bytes (Ok x) t e h = absurd (cc e)
need-is false bytes (Err Short) t e h = (refl, h)
need-is false bytes (Err (Bad left)) t e h = absurd (cc e)

-- less than a frame is there
pub was-short : (s t : Stream) → Need ≡ next_of s → t ≡ left_of s → (frame s.bytes ≡ Err Short) × (t ≡ s)
was-short s t e h = need-is s.failed s.bytes (frame s.bytes) t e h

wrong-is : (failed : Bool) (bytes : List ℕ) (read : Result (Frame × List ℕ) Fault) (t : Stream) → failed ≡ false → Wrong ≡ (if failed then Wrong else next_in read)
    → t ≡ (if failed then record { bytes = bytes; failed = failed } else left_in (record { bytes = bytes; failed = failed }) read) → IsBad read × (t.bytes ≡ bytes)
wrong-is true bytes read t f e h = absurd (cc f)
wrong-is false bytes (Ok x) t f e h = absurd (cc e)
wrong-is false bytes (Err Short) t f e h = absurd (cc e)
wrong-is false bytes (Err (Bad left)) t f e h = ((left, refl), ap (λ (s : Stream). s.bytes) h)

-- no frame can stand there
pub was-bad : (s t : Stream) → s.failed ≡ false → Wrong ≡ next_of s → t ≡ left_of s → IsBad (frame s.bytes) × (t.bytes ≡ s.bytes)
was-bad s t f e h = wrong-is s.failed s.bytes (frame s.bytes) t f e h

-- what became of the frame, where it is known
pub goes-at : {S : Type 0} (answers : S → Frame → List ℕ → S → Type 0) (talks : List ℕ → Bool → Type 0) (s t : S) (from to : Stream) (w v : Went) →
    w ≡ v → Goes answers talks s t from to w → Goes answers talks s t from to v
goes-at {S} answers talks s t from to w v e h = subst (λ (x : Went). Goes answers talks s t from to x) e h
