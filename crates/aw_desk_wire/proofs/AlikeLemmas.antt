-- What related desks do together.
use Rattle.std.proofs.Common.{◌≡◌, ℕ, zero, suc, List, [], ◌∷◌, Option, None, Some, refl, sym, subst}
use Rattle.std.specs.Prelude.{slice_get, slice_set}
use Rattle.aw_msg.specs.Frames.{Frame}
use Rattle.aw_msg.specs.Streams.{Stream}
use Rattle.aw_out.specs.Wires.{Session}
use Rattle.aw_session.proofs.Simulations.{answered-as}
use Rattle.aw_desk_wire.specs.Alike.{AllAre, AnswerAlike, HonestAlike}
use Rattle.aw_desk_wire.specs.Asking.{AskedOf, AreAsked}
use Rattle.aw_desk_wire.specs.Honest.{AreHonest, LastIs}

module _
    (D P : Type 0)
    (R : D → P → Type 0)
    (A : D → Frame → List ℕ → D → Type 0)
    (B : P → Frame → List ℕ → P → Type 0)
    (sim : AnswerAlike R A B)
  where
    -- a role has a simpler desk where it has one
    are-some : (ds : List D) (ps : List P) (i : ℕ) (d : D) → AllAre R ds ps → slice_get ds i ≡ Some d → (p : P) × (slice_get ps i ≡ Some p) × R d p
    are-some [] [] i d h e = absurd (cc e)
    are-some [] (q ∷ ps) i d h e = absurd h
    are-some (c ∷ ds) [] i d h e = absurd h
    are-some (c ∷ ds) (q ∷ ps) zero d h e = let same : c ≡ d = cc e in (q, refl, subst (λ (x : D). R x q) same h.0)
    are-some (c ∷ ds) (q ∷ ps) (suc i) d h e = are-some ds ps i d h.1 e

    -- and none where it has none
    are-none : (ds : List D) (ps : List P) (i : ℕ) → AllAre R ds ps → slice_get ds i ≡ None → slice_get ps i ≡ None
    are-none [] [] i h e = refl
    are-none [] (q ∷ ps) i h e = absurd h
    are-none (c ∷ ds) [] i h e = absurd h
    are-none (c ∷ ds) (q ∷ ps) zero h e = absurd (cc e)
    are-none (c ∷ ds) (q ∷ ps) (suc i) h e = are-none ds ps i h.1 e

    -- those of one role are others
    are-set : (ds : List D) (ps : List P) (i : ℕ) (d : D) (p : P) → AllAre R ds ps → R d p → AllAre R (slice_set ds i d) (slice_set ps i p)
    are-set [] [] i d p h r = tt
    are-set [] (q ∷ ps) i d p h r = absurd h
    are-set (c ∷ ds) [] i d p h r = absurd h
    are-set (c ∷ ds) (q ∷ ps) zero d p h r = (r, h.1)
    are-set (c ∷ ds) (q ∷ ps) (suc i) d p h r = (h.0, are-set ds ps i d p h.1 r)

    asked-of : (role : ℕ) (ds es : List D) (ps : List P) (found : Option D) (fs : List Frame) (xs : List (List ℕ)) → slice_get ds role ≡ found → AllAre R ds ps → AskedOf A role ds found fs xs es →
        (qs : List P) × AreAsked B role ps qs fs xs × AllAre R es qs
    asked-of role ds es ps None fs xs e r h =
        let none = are-none ds ps role r e in
        (ps, subst (λ (o : Option P). AskedOf B role ps o fs xs ps) (sym none) (h.0, refl), subst (λ (zs : List D). AllAre R zs ps) (sym h.1) r)
    asked-of role ds es ps (Some d) fs xs e r h =
        let there = are-some ds ps role d r e in
        let them = answered-as D P A B R sim d h.0 there.0 fs xs h.1 there.2 in (
          slice_set ps role them.0,
          subst (λ (o : Option P). AskedOf B role ps o fs xs (slice_set ps role them.0)) (sym there.1) (them.0, them.1, refl),
          subst (λ (zs : List D). AllAre R zs (slice_set ps role them.0)) (sym h.2) (are-set ds ps role h.0 them.0 r them.2),
        )

    -- frames of one role
    asked-as : (role : ℕ) (ds es : List D) (ps : List P) (fs : List Frame) (xs : List (List ℕ)) → AllAre R ds ps → AreAsked A role ds es fs xs →
        (qs : List P) × AreAsked B role ps qs fs xs × AllAre R es qs
    asked-as role ds es ps fs xs r h = asked-of role ds es ps (slice_get ds role) fs xs refl r h

    -- sessions that are over
    pub honest-as : (ds es : List D) (ps : List P) (xs : List Session) → AllAre R ds ps → AreHonest A ds es xs → (qs : List P) × AreHonest B ps qs xs × AllAre R es qs
    honest-as ds es ps [] r h = (ps, refl, subst (λ (zs : List D). AllAre R zs ps) (sym h) r)
    honest-as ds es ps (x ∷ xs) r h =
        let one = h.1 in
        let them = asked-as x.role ds h.0 ps one.frames one.replies r one.asked in
        let others = honest-as h.0 es them.0 xs them.2 h.2 in
        (others.0, (them.0, record { frames = one.frames; replies = one.replies; bad = one.bad; later = one.later; splits = one.splits; asked = them.1; read = one.read }, others.1), others.2)

    -- the last session
    last-as : (ds es : List D) (ps : List P) (kept : Stream) (last : Option Session) → AllAre R ds ps → LastIs A ds es kept last → (qs : List P) × LastIs B ps qs kept last × AllAre R es qs
    last-as ds es ps kept None r h = (ps, refl, subst (λ (zs : List D). AllAre R zs ps) (sym h) r)
    last-as ds es ps kept (Some c) r h =
        let them = asked-as c.role ds es ps h.frames h.replies r h.asked in
        (them.0, record { frames = h.frames; replies = h.replies; yields = h.yields; ended = h.ended; asked = them.1; read = h.read }, them.2)

    -- all sessions
    pub honest-alike : HonestAlike R A B
    honest-alike ds es ps kept cs r h =
        let them = honest-as ds h.between ps cs.over r h.over in
        let last = last-as h.between es them.0 kept cs.last them.2 h.last in
        (last.0, record { between = them.0; over = them.1; last = last.1 }, last.2)
