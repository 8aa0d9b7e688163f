-- A piece that was read, by how it went.
use Rattle.std.proofs.Common.{◌≡◌, ◌≢◌, ℕ, ◌+◌, ◌-◌, ◌≤◌, List, [], ◌∷◌, ◌++◌, length, take, min, Bool, false, Option, Result, Ok, Err, refl, ap, sym, subst, ◌∙◌, arith}
use Rattle.std.specs.Result.{IfErr}
use Rattle.aw_out.specs.Wires.{Content}
use Rattle.aw_msg.specs.Frames.{Frame}
use Rattle.aw_msg.specs.Pieces.{Yields}
use Rattle.aw_msg.specs.Streams.{Stream}
use Rattle.aw_session.specs.Broken.{Reading}
use Rattle.aw_session.specs.Course.{IsGoing, IsDone, IsHalted, EndsWith}
use Rattle.aw_session.specs.Frames.{joined, AreAnswered}
use Rattle.aw_session.specs.Served.{limit, closing}
use Rattle.aw_session.specs.Steps.{IsStoppedStretch, IsHaltedStretch}
use Rattle.aw_session.specs.declared.answering.Stop.TheVariants as stop
use Rattle.aw_session.specs.declared.log.How.{How}
use Rattle.aw_session.specs.declared.log.How.TheVariants.{Bad, Long, Fault}
use Rattle.aw_session.proofs.Courses.{Adds-up, Fed, fed-goes-on, fed-broken, fed-bad, fed-long, fed-ends, fed-halts}

-- What is known before the frames of the piece are answered.
pub record Before {S W : Type 0} (answers : S → Frame → List ℕ → S → Type 0) (talks : W → W → List ℕ → List ℕ → Bool → Type 0) (s t : S) (u v : W)
    (kept piece front from : List ℕ) (total within count : ℕ) (read : List ℕ) (frames : List Frame) (replies : List (List ℕ)) : Type 0 where
  pub yields : Yields read frames kept
  pub sized : total ≡ length read
  pub counted : count ≡ length frames
  pub answered : AreAnswered answers s frames replies t
  pub talked : talks u v (read ++ piece) (joined replies) false
  pub limited : total ≤ limit
  pub within_is : within ≡ min (length piece) (limit - total)
  pub front_is : front ≡ take within piece
  pub from_is : from ≡ kept ++ front

module _
    (S W : Type 0)
    (answers : S → Frame → List ℕ → S → Type 0)
    (talks : W → W → List ℕ → List ℕ → Bool → Type 0)
    (content : W → Option Content)
    (adds : Adds-up talks)
    (s t : S)
    (u v : W)
    (kept piece front from : List ℕ)
    (total within count : ℕ)
    (read : List ℕ)
    (frames : List Frame)
    (replies : List (List ℕ))
    (b : Before answers talks s t u v kept piece front from total within count read frames replies)
  where
    -- with the frames that were answered
    fed-of : (t' : S) (kept' : List ℕ) (count' : ℕ) (frames' : List Frame) (replies' : List (List ℕ)) → Yields from frames' kept' →
        count' - count ≡ length frames' → count ≤ count' → AreAnswered answers t frames' replies' t' →
        Fed answers talks s t t' u v kept piece front kept' total count count' read frames frames' replies replies'
    fed-of t' kept' count' frames' replies' y n r a = record {
      yields = b.yields;
      sized = b.sized;
      counted = b.counted;
      answered = b.answered;
      talked = b.talked;
      within = b.limited;
      front_is = b.front_is ∙ ap (λ (n : ℕ). take n piece) b.within_is;
      yields_more = subst (λ (x : List ℕ). Yields x frames' kept') b.from_is y;
      counted_more = n;
      rises = r;
      answered_more = a;
    }

    -- less than a frame is left, and no byte was past the limit
    pub take-waits : (t' : S) (v' : W) (rest : Stream) (count' : ℕ) → count ≤ count' → IsStoppedStretch answers
        (λ (w : List ℕ) (f : Bool). talks v v' [] w f) t t' from rest.bytes (count' - count) stop.Waits →
        rest.failed ≡ false → within ≡ length piece → IsGoing answers talks s t' u v' rest (total + within) count'
    take-waits t' v' rest count' r st sound all =
        let fed = fed-of t' rest.bytes count' st.frames st.replies st.yields st.counted r st.answered in
        subst (λ (n : ℕ). IsGoing answers talks s t' u v' rest (total + n) count') (sym b.within_is)
        (fed-goes-on S W answers talks content adds s t t' u v v' v' kept piece front rest.bytes total count count' read frames st.frames replies
        st.replies fed rest refl sound (sym b.within_is ∙ all) st.stops.0 st.stops.1)

    -- a byte was past the limit
    pub take-long : (t' : S) (v' v'' : W) (rest : List ℕ) (count' : ℕ) (result : How) (reply : List ℕ) → count ≤ count' → IsStoppedStretch answers
        (λ (w : List ℕ) (f : Bool). talks v v' [] w f) t t' from rest (count' - count) stop.Waits →
        within ≢ length piece → closing Long ≡ reply ∷ [] → EndsWith result Long reply (λ (w : List ℕ) (f : Bool). talks v' v'' [] w f) →
        IsDone answers talks content s t' u v'' (record { frames = count'; how = result })
    take-long t' v' v'' rest count' result reply r st part e k =
        let fed = fed-of t' rest count' st.frames st.replies st.yields st.counted r st.answered in
        let so = fed-long S W answers talks content adds s t t' u v v' v'' kept piece front rest total count count' read frames st.frames replies
        st.replies fed (λ same. part (b.within_is ∙ same)) st.stops.0 in
        fed-ends S W answers talks content adds s t t' u v v' v'' kept piece front rest total count count' read frames st.frames replies st.replies fed result Long reply e so st.stops.1 k

    -- no frame can stand there
    pub take-bad : (t' : S) (v' v'' : W) (rest : List ℕ) (count' : ℕ) (result : How) (reply : List ℕ) → count ≤ count' → IsStoppedStretch answers
        (λ (w : List ℕ) (f : Bool). talks v v' [] w f) t t' from rest (count' - count) stop.Bad →
        closing Bad ≡ reply ∷ [] → EndsWith result Bad reply (λ (w : List ℕ) (f : Bool). talks v' v'' [] w f) → IsDone answers talks content s t' u v'' (record { frames = count'; how = result })
    take-bad t' v' v'' rest count' result reply r st e k =
        let fed = fed-of t' rest count' st.frames st.replies st.yields st.counted r st.answered in
        let so = fed-bad S W answers talks content adds s t t' u v v' v'' kept piece front rest total count count' read frames st.frames replies st.replies fed st.stops.0 in
        fed-ends S W answers talks content adds s t t' u v v' v'' kept piece front rest total count count' read frames st.frames replies st.replies fed result Bad reply e so st.stops.1 k

    -- a reply was written in part
    pub take-broken : (t' : S) (v' : W) (rest : List ℕ) (count' : ℕ) → count ≤ count' → IsStoppedStretch answers
        (λ (w : List ℕ) (f : Bool). talks v v' [] w f) t t' from rest (count' - count) stop.Broken →
        IsDone answers talks content s t' u v' (record { frames = count'; how = Fault })
    take-broken t' v' rest count' r st =
        let fed = fed-of t' rest count' st.frames st.replies st.yields st.counted r st.answered in
        fed-broken S W answers talks content adds s t t' u v v' v' kept piece front rest total count count' read frames st.frames replies st.replies fed st.stops.0 st.stops.1 st.stops.2

    -- a frame got no reply
    pub take-halted : {F : Type 0} (breaks : S → Frame → F → S → Type 0) (t' : S) (v' : W) (fault : F) → IsHaltedStretch answers breaks
        (λ (w : List ℕ) (f : Bool). talks v v' [] w f) t t' from fault → IsHalted answers breaks talks s t' u v' fault
    take-halted {F} breaks t' v' fault st =
        let more : (count + length st.frames) - count ≡ length st.frames = omega arith in
        let up : count ≤ count + length st.frames = omega arith in
        let fed = fed-of st.between st.rest (count + length st.frames) st.frames st.replies st.yields more up st.answered in
        fed-halts S W answers talks content adds s t st.between u v v' v' kept piece front st.rest total count (count + length st.frames) read frames
        st.frames replies st.replies fed breaks fault st.between refl t' st.stops st.talked

    -- there was no memory for the piece
    pub take-nothing : {F A : Type 0} (breaks : S → Frame → F → S → Type 0) (result : Result A F) → talks v v [] [] false → IfErr result (IsHalted answers breaks talks s t u v)
    take-nothing {F} {A} breaks (Ok x) none = tt
    take-nothing {F} {A} breaks (Err fault) none =
        take-halted breaks t v fault (record { frames = []; replies = []; between = t; rest = from; answered = refl; yields = refl; talked = none; stops = Reading refl })
