-- One piece more in the course of a session.
use Rattle.std.proofs.Common.{◌≡◌, ◌≢◌, ℕ, zero, suc, ◌+◌, ◌-◌, ◌≤◌, List, [], ◌∷◌, ◌++◌, length, take, min, Bool, true, false, Option, Err, refl, ap}
use Rattle.std.proofs.Common.{sym, subst, ◌∙◌, arith, append_assoc, append-nil, length-append}
use Rattle.std.proofs.Math.Seq.{take-append-add, take-length}
use Rattle.aw_out.specs.Wires.{Content, unread}
use Rattle.aw_codec.specs.Reading.{Short}
use Rattle.aw_msg.specs.Frames.{Frame, frame}
use Rattle.aw_msg.specs.Pieces.{Yields, IsBad}
use Rattle.aw_msg.specs.Streams.{Stream}
use Rattle.aw_msg.proofs.Extensions.{yields_more}
use Rattle.aw_session.specs.Broken.{StopsAt}
use Rattle.aw_session.specs.Course.{IsGoing, IsDone, IsHalted, EndsWith}
use Rattle.aw_session.specs.Frames.{joined, AreAnswered, IsCutShort}
use Rattle.aw_session.specs.Served.{limit, closing, EndsSo, Replying, Ending, Ends, IsServed, LeavesNone}
use Rattle.aw_session.specs.declared.log.How.{How}
use Rattle.aw_session.specs.declared.log.How.TheVariants.{End, Cut, Bad, Long, Fault}
use Rattle.aw_session.proofs.Stretches.{answered-then, joined-append, joined-one, yields-then}

-- what goes over the wire is added up
abbrev pub Adds-up : {W : Type 0} → (W → W → List ℕ → List ℕ → Bool → Type 0) → Type 0
Adds-up {W} talks = (a b c : W) (r w r' w' : List ℕ) (f : Bool) → talks a b r w false → talks b c r' w' f → talks a c (r ++ r') (w ++ w') f

-- A session in which so much was read and answered, and a piece whose front was taken in, of which these frames were answered.
pub record Fed {S W : Type 0} (answers : S → Frame → List ℕ → S → Type 0) (talks : W → W → List ℕ → List ℕ → Bool → Type 0) (s t t' : S) (u v : W)
    (kept piece front kept' : List ℕ) (total count count' : ℕ) (read : List ℕ) (frames frames' : List Frame) (replies replies' : List (List ℕ)) : Type 0 where
  pub yields : Yields read frames kept
  pub sized : total ≡ length read
  pub counted : count ≡ length frames
  pub answered : AreAnswered answers s frames replies t
  pub talked : talks u v (read ++ piece) (joined replies) false
  pub within : total ≤ limit
  pub front_is : front ≡ take (min (length piece) (limit - total)) piece
  pub yields_more : Yields (kept ++ front) frames' kept'
  pub counted_more : count' - count ≡ length frames'
  pub rises : count ≤ count'
  pub answered_more : AreAnswered answers t frames' replies' t'

take-behind : (read piece : List ℕ) (lim : ℕ) → length read ≤ lim → take lim (read ++ piece) ≡ read ++ take (lim - length read) piece
take-behind read piece lim h =
    let split : lim ≡ length read + (lim - length read) = omega arith in
    ap (λ (n : ℕ). take n (read ++ piece)) split ∙ take-append-add read piece (lim - length read)

take-none : (m : ℕ) → take {A = ℕ} m [] ≡ []
take-none zero = refl
take-none (suc m) = refl

take-most : (piece : List ℕ) (n : ℕ) → take (min (length piece) n) piece ≡ take n piece
take-most [] n = take-none (min 0 n) ∙ sym (take-none n)
take-most (x ∷ xs) zero = let none : min (length (x ∷ xs)) 0 ≡ 0 = omega arith in ap (λ (m : ℕ). take m (x ∷ xs)) none
take-most (x ∷ xs) (suc n) = let both : min (length (x ∷ xs)) (suc n) ≡ suc (min (length xs) n) = omega arith in ap (λ (m : ℕ). take m (x ∷ xs)) both ∙ ap (λ (t : List ℕ). x ∷ t) (take-most xs n)

-- what was taken in is all that was read, up to the limit
taken-in : (read piece : List ℕ) (total : ℕ) → total ≡ length read → total ≤ limit → read ++ take (min (length piece) (limit - total)) piece ≡ take limit (read ++ piece)
taken-in read piece total e h =
    let within : length read ≤ limit = omega (arith, e, h) in
    ap (λ (t : List ℕ). read ++ t) (take-most piece (limit - total) ∙ ap (λ (n : ℕ). take (limit - n) piece) e) ∙ sym (take-behind read piece limit within)

-- a reply that was cut short stands behind whole ones
pub cut-behind : (xs ys : List (List ℕ)) (written : List ℕ) → IsCutShort ys written → IsCutShort (xs ++ ys) (joined xs ++ written)
cut-behind xs ys written c = record {
  whole = xs ++ c.whole;
  last = c.last;
  count = c.count;
  are = ap (λ (zs : List (List ℕ)). xs ++ zs) c.are ∙ sym (append_assoc xs c.whole (c.last ∷ []));
  part = c.part;
  written_is = ap (λ (w : List ℕ). joined xs ++ w) c.written_is ∙ sym (append_assoc (joined xs) (joined c.whole) (take c.count c.last))
      ∙ ap (λ (w : List ℕ). w ++ take c.count c.last) (sym (joined-append xs c.whole));
}

module _
    (S W : Type 0)
    (answers : S → Frame → List ℕ → S → Type 0)
    (talks : W → W → List ℕ → List ℕ → Bool → Type 0)
    (content : W → Option Content)
    (adds : Adds-up talks)
    (s t t' : S)
    (u v v' v'' : W)
    (kept piece front kept' : List ℕ)
    (total count count' : ℕ)
    (read : List ℕ)
    (frames frames' : List Frame)
    (replies replies' : List (List ℕ))
    (fed : Fed answers talks s t t' u v kept piece front kept' total count count' read frames frames' replies replies')
  where
    -- the frames of what was taken in
    fed-front : Yields (read ++ front) (frames ++ frames') kept'
    fed-front = yields-then (read ++ front) frames frames' (kept ++ front) kept' (yields_more read frames kept front fed.yields) fed.yields_more

    -- the frames of what was read, up to the limit
    fed-yields : Yields (take limit (read ++ piece)) (frames ++ frames') kept'
    fed-yields = subst (λ (b : List ℕ). Yields b (frames ++ frames') kept') (ap (λ (b : List ℕ). read ++ b) fed.front_is ∙ taken-in read piece total fed.sized fed.within) fed-front

    -- their replies
    fed-answered : AreAnswered answers s (frames ++ frames') (replies ++ replies') t'
    fed-answered = answered-then answers s t t' frames frames' replies replies' fed.answered fed.answered_more

    -- their number
    fed-counted : count' ≡ length (frames ++ frames')
    fed-counted = omega (arith, fed.counted, fed.counted_more, fed.rises, length-append frames frames')

    -- what went over the wire
    fed-talked : (w : List ℕ) (f : Bool) → talks v v' [] w f → talks u v' (read ++ piece) (joined replies ++ w) f
    fed-talked w f h = subst (λ (r : List ℕ). talks u v' r (joined replies ++ w) f) (append-nil (read ++ piece)) (adds u v v' (read ++ piece) (joined replies) [] w f fed.talked h)

    -- all replies were written
    fed-written : talks v v' [] (joined replies') false → talks u v' (read ++ piece) (joined (replies ++ replies')) false
    fed-written h = subst (λ (w : List ℕ). talks u v' (read ++ piece) w false) (sym (joined-append replies replies')) (fed-talked (joined replies') false h)

    -- less than a frame is left, and the session goes on
    pub fed-goes-on : (rest : Stream) → rest.bytes ≡ kept' → rest.failed ≡ false → min (length piece) (limit - total) ≡ length piece → frame kept' ≡ Err Short → talks v v' [] (joined replies') false →
        IsGoing answers talks s t' u v' rest (total + min (length piece) (limit - total)) count'
    fed-goes-on rest same sound all short h = record {
      read = read ++ piece;
      frames = frames ++ frames';
      replies = replies ++ replies';
      answered = fed-answered;
      yields = subst (λ (b : List ℕ). Yields (read ++ piece) (frames ++ frames') b) (sym same)
          (subst (λ (b : List ℕ). Yields (read ++ b) (frames ++ frames') kept') (fed.front_is ∙ ap (λ (n : ℕ). take n piece) all
          ∙ take-length piece) fed-front);
      short = ap frame same ∙ short;
      sound = sound;
      counted = fed-counted;
      sized = omega (arith, fed.sized, all, length-append read piece);
      within = omega (arith, fed.within);
      talked = fed-written h;
    }

    -- the last reply was written in part
    pub fed-broken : (w : List ℕ) → IsCutShort replies' w → talks v v' [] w true → IsDone answers talks content s t' u v' (record { frames = count'; how = Fault })
    fed-broken w cut h = record {
      read = read ++ piece;
      written = joined replies ++ w;
      failed = true;
      talked = fed-talked w true h;
      served = record {
        frames = frames ++ frames';
        replies = replies ++ replies';
        answered = fed-answered;
        counted = fed-counted;
        ends = (refl, Replying kept' fed-yields (cut-behind replies replies' w cut));
        none_left = tt;
      };
    }

    -- no frame can stand there
    pub fed-bad : IsBad (frame kept') → EndsSo Bad (read ++ piece) (frames ++ frames')
    fed-bad bad = (kept', fed-yields, bad)

    -- the limit was passed
    pub fed-long : min (length piece) (limit - total) ≢ length piece → frame kept' ≡ Err Short → EndsSo Long (read ++ piece) (frames ++ frames')
    fed-long part short = (kept', fed-yields, short, omega (arith, fed.sized, fed.within, part, length-append read piece))

    -- the closing reply was written whole
    closed-whole : (how : How) (reply : List ℕ) → closing how ≡ reply ∷ [] → talks v v' [] (joined replies') false → talks v' v'' [] reply false →
        talks u v'' (read ++ piece) (joined ((replies ++ replies') ++ closing how)) false
    closed-whole how reply e h k =
        subst (λ (w : List ℕ). talks u v'' (read ++ piece) w false) (sym (ap (λ (xs : List (List ℕ)). joined ((replies ++ replies') ++ xs)) e ∙ joined-one (replies ++ replies') reply))
        (subst (λ (r : List ℕ). talks u v'' r (joined (replies ++ replies') ++ reply) false) (append-nil (read ++ piece))
        (adds u v' v'' (read ++ piece) (joined (replies ++ replies')) [] reply false (fed-written h) k))

    served-so : (how : How) (w : List ℕ) (failed : Bool) (left : List ℕ) → Ends how (read ++ piece) w failed (frames ++ frames') (replies ++ replies') → LeavesNone how left →
        IsServed answers s t' (read ++ piece) w failed left (record { frames = count'; how = how })
    served-so how w failed left ends none = record { frames = frames ++ frames'; replies = replies ++ replies'; answered = fed-answered; counted = fed-counted; ends = ends; none_left = none }

    -- the closing reply was written, whole or in part
    pub fed-ends : (result how : How) (reply : List ℕ) → closing how ≡ reply ∷ [] → EndsSo how (read ++ piece) (frames ++ frames') → talks v v' [] (joined replies') false →
        EndsWith result how reply (λ (w : List ℕ) (b : Bool). talks v' v'' [] w b) → IsDone answers talks content s t' u v'' (record { frames = count'; how = result })
    fed-ends Fault how reply e so h k =
        let part = take k.0 reply in
        let all = joined (replies ++ replies') in
        record {
          read = read ++ piece;
          written = all ++ part;
          failed = true;
          talked = subst (λ (r : List ℕ). talks u v'' r (all ++ part) true) (append-nil (read ++ piece)) (adds u v' v'' (read ++ piece) all [] part true (fed-written h) k.2);
          served = served-so Fault (all ++ part) true (unread (content v'')) (
            refl,
            Ending how (λ none. absurd (cc (e, none))) so (record {
              whole = replies ++ replies';
              last = reply;
              count = k.0;
              are =
                  ap (λ (xs : List (List ℕ)). (replies ++ replies') ++ xs) e;
              part = k.1;
              written_is = refl;
            }),
          ) tt;
        }
    fed-ends Bad how reply e so h k =
        let same : Bad ≡ how = k.0 in
        let w = joined ((replies ++ replies') ++ closing Bad) in
        record {
          read = read ++ piece;
          written = w;
          failed = false;
          talked = closed-whole Bad reply (ap closing same ∙ e) h k.1;
          served = served-so Bad w false (unread (content v'')) (refl, subst (λ (x : How). EndsSo x (read ++ piece) (frames ++ frames')) (sym same) so, refl) tt;
        }
    fed-ends Long how reply e so h k =
        let same : Long ≡ how = k.0 in
        let w = joined ((replies ++ replies') ++ closing Long) in
        record {
          read = read ++ piece;
          written = w;
          failed = false;
          talked = closed-whole Long reply (ap closing same ∙ e) h k.1;
          served = served-so Long w false (unread (content v'')) (refl, subst (λ (x : How). EndsSo x (read ++ piece) (frames ++ frames')) (sym same) so, refl) tt;
        }
    fed-ends End how reply e so h k = absurd (cc (ap closing k.0 ∙ e))
    fed-ends Cut how reply e so h k = absurd (cc (ap closing k.0 ∙ e))

    -- a frame got no reply
    pub fed-halts : {F : Type 0} (breaks : S → Frame → F → S → Type 0) (fault : F) (between : S) → t' ≡ between → (end : S) →
        StopsAt breaks kept' between fault end → talks v v' [] (joined replies') false →
        IsHalted answers breaks talks s end u v' fault
    fed-halts {F} breaks fault between same end stops h = record {
      read = read ++ piece;
      written = joined (replies ++ replies');
      talked = fed-written h;
      stopped = record {
        frames = frames ++ frames';
        replies = replies ++ replies';
        between = between;
        rest = kept';
        answered = subst (λ (x : S). AreAnswered answers s (frames ++ frames') (replies ++ replies') x) same fed-answered;
        yields = fed-yields;
        written_is = refl;
        stops = stops;
      };
    }
