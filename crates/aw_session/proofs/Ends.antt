-- How a session ends where a read failed, and how it goes on where bytes were read.
use Rattle.std.proofs.Common.{ℕ, ◌≤◌, List, [], ◌++◌, length, Bool, true, false, Option, refl, subst, arith, append-nil}
use Rattle.aw_out.specs.Wires.{Content}
use Rattle.aw_msg.specs.Frames.{Frame}
use Rattle.aw_msg.specs.Streams.{Stream}
use Rattle.aw_session.specs.Course.{IsGoing, IsDone}
use Rattle.aw_session.specs.Frames.{joined}
use Rattle.aw_session.specs.Served.{limit, Reading}
use Rattle.aw_session.specs.declared.log.How.TheVariants.{Fault}
use Rattle.aw_session.proofs.Courses.{Adds-up}

module _
    (S W : Type 0)
    (answers : S → Frame → List ℕ → S → Type 0)
    (talks : W → W → List ℕ → List ℕ → Bool → Type 0)
    (content : W → Option Content)
    (adds : Adds-up talks)
    (s t : S)
    (u v v' : W)
    (kept : Stream)
    (total count : ℕ)
    (going : IsGoing answers talks s t u v kept total count)
  where
    -- no byte more went over the wire
    still : (f : Bool) → talks v v' [] [] f → talks u v' going.read (joined going.replies) f
    still f h =
        subst (λ (r : List ℕ). talks u v' r (joined going.replies) f) (append-nil going.read)
        (subst (λ (w : List ℕ). talks u v' (going.read ++ []) w f) (append-nil (joined going.replies)) (adds u v v' going.read (joined going.replies) [] [] f going.talked h))

    limited : length going.read ≤ limit
    limited = omega (arith, going.sized, going.within)

    -- a read failed
    pub going-failed : talks v v' [] [] true → IsDone answers talks content s t u v' (record { frames = count; how = Fault })
    going-failed h = record {
      read = going.read;
      written = joined going.replies;
      failed = true;
      talked = still true h;
      served = record {
        frames = going.frames;
        replies = going.replies;
        answered = going.answered;
        counted = going.counted;
        ends =
            (refl, Reading kept.bytes going.yields going.short limited refl);
        none_left = tt;
      };
    }

    -- some bytes were read
    pub going-read : (r : List ℕ) → talks v v' r [] false → talks u v' (going.read ++ r) (joined going.replies) false
    going-read r h = subst (λ (w : List ℕ). talks u v' (going.read ++ r) w false) (append-nil (joined going.replies)) (adds u v v' going.read (joined going.replies) r [] false going.talked h)
