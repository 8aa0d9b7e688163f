-- Frames that are asked of the desk of a role, one after the other.
use Rattle.std.proofs.Common.{◌≡◌, ℕ, zero, suc, ◌≤◌, List, [], ◌∷◌, ◌++◌, length, Ok, Option, None, Some, inl, refl, sym, ap, subst, ◌∙◌, append-nil, arith}
use Rattle.std.specs.Prelude.{slice_get, slice_set}
use Rattle.aw_law_nodes.proofs.ListParts.{set-get as set-same, set-set as set-twice}
use Rattle.aw_msg.specs.Frames.{Frame, frame}
use Rattle.aw_msg.specs.Streams.{Stream}
use Rattle.aw_msg.proofs.Extensions.{yields_one}
use Rattle.aw_session.specs.Frames.{joined}
use Rattle.aw_session.proofs.Stretches.{answered-then, joined-append}
use Rattle.aw_desk_wire.specs.Asking.{AskedOf, AreAsked, IsAsked, IsStretch, IsStarved}

-- ---- places of a list

-- what was written at a place stands there
pub got-set : {A : Type 0} (xs : List A) (i : ℕ) (x z : A) → slice_get xs i ≡ Some x → slice_get (slice_set xs i z) i ≡ Some z
got-set [] i x z e = absurd (cc e)
got-set (y ∷ xs) zero x z e = refl
got-set (y ∷ xs) (suc i) x z e = got-set xs i x z e

-- nothing stands past the end
pub got-none : {A : Type 0} (xs : List A) (i : ℕ) → length xs ≤ i → slice_get xs i ≡ None
got-none [] i le = refl
got-none (y ∷ xs) zero le = absurd (omega (arith, le))
got-none (y ∷ xs) (suc i) le = got-none xs i (omega (arith, le))

module _
    (D : Type 0)
    (answers : D → Frame → List ℕ → D → Type 0)
    (role : ℕ)
  where
    -- ---- frames of one role

    none-of : (ds : List D) (found : Option D) → slice_get ds role ≡ found → AskedOf answers role ds found [] [] ds
    none-of ds None e = (refl, refl)
    none-of ds (Some d) e = (d, refl, sym (set-same ds role d e))

    -- nothing was asked
    pub asked-none : (ds : List D) → AreAsked answers role ds ds [] []
    asked-none ds = none-of ds (slice_get ds role) refl

    then-of : (ds es us : List D) (found : Option D) (fs gs : List Frame) (xs ys : List (List ℕ)) → slice_get ds role ≡ found →
        AskedOf answers role ds found fs xs es → AskedOf answers role es (slice_get es role) gs ys us → AskedOf answers role ds found (fs ++ gs) (xs ++ ys) us
    then-of ds es us None fs gs xs ys e h k =
        let none : slice_get es role ≡ None = ap (λ (zs : List D). slice_get zs role) h.1 ∙ e in
        let there = subst (λ (o : Option D). AskedOf answers role es o gs ys us) none k in
        (ap (λ (zs : List (List ℕ)). zs ++ ys) h.0 ∙ there.0, there.1 ∙ h.1)
    then-of ds es us (Some d) fs gs xs ys e h k =
        let there : slice_get es role ≡ Some h.0 = ap (λ (zs : List D). slice_get zs role) h.2 ∙ got-set ds role d h.0 e in
        let next = subst (λ (o : Option D). AskedOf answers role es o gs ys us) there k in
        (next.0, answered-then answers d h.0 next.0 fs gs xs ys h.1 next.1, next.2 ∙ ap (λ (zs : List D). slice_set zs role next.0) h.2 ∙ set-twice ds role h.0 next.0)

    -- some were asked, and then others
    pub asked-then : (ds es us : List D) (fs gs : List Frame) (xs ys : List (List ℕ)) → AreAsked answers role ds es fs xs →
        AreAsked answers role es us gs ys → AreAsked answers role ds us (fs ++ gs) (xs ++ ys)
    asked-then ds es us fs gs xs ys h k = then-of ds es us (slice_get ds role) fs gs xs ys refl h k

    -- ---- one frame

    -- where there is a desk
    pub asks-desk : (ds : List D) (d e : D) (f : Frame) (reply old new : List ℕ) → slice_get ds role ≡ Some d → answers d f reply e →
        new ≡ old ++ reply → IsAsked answers role ds (slice_set ds role e) f old new
    asks-desk ds d e f reply old new at h added = record {
      replies = reply ∷ [];
      asked = subst (λ (o : Option D). AskedOf answers role ds o (f ∷ []) (reply ∷ []) (slice_set ds role e)) (sym at) (e, (e, h, refl), refl);
      added = added ∙ ap (λ (t : List ℕ). old ++ t) (sym (append-nil reply));
    }

    -- where there is none
    pub asks-nobody : (ds : List D) (f : Frame) (old : List ℕ) → slice_get ds role ≡ None → IsAsked answers role ds ds f old old
    asks-nobody ds f old at = record {
      replies = [];
      asked = subst (λ (o : Option D). AskedOf answers role ds o (f ∷ []) [] ds) (sym at) (refl, refl);
      added = sym (append-nil old);
    }

    -- ---- the frames of a stream

    -- nothing was asked yet
    pub stretch-none : (ds : List D) (from : Stream) → IsStretch answers role ds ds from from []
    stretch-none ds from = record { frames = []; replies = []; yields = refl; asked = asked-none ds; text_is = refl }

    -- one more was asked
    pub stretch-one : (ds es us : List D) (from mid to : Stream) (text more : List ℕ) (f : Frame) → IsStretch answers role ds es from mid text →
        frame mid.bytes ≡ Ok (f, to.bytes) → IsAsked answers role es us f text more →
        IsStretch answers role ds us from to more
    stretch-one ds es us from mid to text more f old e one = record {
      frames = old.frames ++ f ∷ [];
      replies = old.replies ++ one.replies;
      yields = yields_one from.bytes old.frames mid.bytes f to.bytes old.yields e;
      asked = asked-then ds es us old.frames (f ∷ []) old.replies one.replies old.asked one.asked;
      text_is = one.added ∙ ap (λ (t : List ℕ). t ++ joined one.replies) old.text_is ∙ sym (joined-append old.replies one.replies);
    }

    -- memory ran out before any was asked
    pub starved-none : (ds : List D) (bytes : List ℕ) → IsStarved answers role ds ds bytes
    starved-none ds bytes = record { frames = []; replies = []; rest = bytes; between = ds; yields = refl; asked = asked-none ds; last = inl refl }
