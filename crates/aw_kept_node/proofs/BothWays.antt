-- Sessions as a simpler workspace sees them, where what a reply does there rests on what came later: `R` relates the two workspaces on the way to the end,
-- and `G` what holds at each of them, by what is known at the end, on the way back.
use Rattle.std.proofs.Common.{ℕ, List, [], ◌∷◌, Bool, Option, None, Some, refl, sym, subst}
use Rattle.aw_out.specs.Wires.{Session, Content}
use Rattle.aw_msg.specs.Frames.{Frame}
use Rattle.aw_session.specs.Broken.{StopsAt, Reading, Replying, IsStopped}
use Rattle.aw_session.specs.Frames.{AreAnswered}
use Rattle.aw_session.specs.Served.{IsServed, AreServed}
use Rattle.aw_session.specs.Sessions.{IsCutOff, LastStops}
use Rattle.aw_session.specs.declared.log.SessionLog.{SessionLog}

module _
    (S P Q : Type 0)
    (A : S → Frame → List ℕ → S → Type 0)
    (B : Q → P → Frame → List ℕ → P → Type 0)
    (R : S → P → Type 0)
    (G : Q → S → P → Type 0)
    (sim : (n m : S) (s : P) (f : Frame) (x : List ℕ) → A n f x m → R n s → (t : P) × R m t × ((q : Q) → G q m t → B q s f x t × G q n s))
  where
    -- frames
    answered-back : (n m : S) (s : P) (fs : List Frame) (xs : List (List ℕ)) → AreAnswered A n fs xs m → R n s → (t : P) × R m t × ((q : Q) → G q m t → AreAnswered (B q) s fs xs t × G q n s)
    answered-back n m s [] [] a r = (s, subst (λ (k : S). R k s) (sym a) r, λ q g. (refl, subst (λ (k : S). G q k s) a g))
    answered-back n m s [] (x ∷ xs) a r = absurd a
    answered-back n m s (f ∷ fs) [] a r = absurd a
    answered-back n m s (f ∷ fs) (x ∷ xs) a r =
        let one = sim n a.0 s f x a.1 r in
        let others = answered-back a.0 m one.0 fs xs a.2 one.1 in
        (others.0, others.1, λ q g. let rest = others.2 q g in let first = one.2 q rest.1 in ((one.0, first.0, rest.0), first.1))

    -- a session
    served-back : (n m : S) (s : P) (read written : List ℕ) (failed : Bool) (left : List ℕ) (l : SessionLog) → IsServed A n m read written failed left l → R n s →
        (t : P) × R m t × ((q : Q) → G q m t → IsServed (B q) s t read written failed left l × G q n s)
    served-back n m s read written failed left l h r =
        let them = answered-back n m s h.frames h.replies h.answered r in
        (them.0, them.1, λ q g. let back = them.2 q g in (record { frames = h.frames; replies = h.replies; answered = back.0; counted = h.counted; ends = h.ends; none_left = h.none_left }, back.1))

    -- sessions
    pub all-served-back : (role : ℕ) (n m : S) (s : P) (xs : List Session) (ls : List SessionLog) → AreServed A role n xs ls m → R n s →
        (t : P) × R m t × ((q : Q) → G q m t → AreServed (B q) role s xs ls t × G q n s)
    all-served-back role n m s [] [] h r = (s, subst (λ (k : S). R k s) (sym h) r, λ q g. (refl, subst (λ (k : S). G q k s) h g))
    all-served-back role n m s [] (l ∷ ls) h r = absurd h
    all-served-back role n m s (x ∷ xs) [] h r = absurd h
    all-served-back role n m s (x ∷ xs) (l ∷ ls) h r =
        let one = served-back n h.0 s x.read x.written x.failed x.left l h.3 r in
        let others = all-served-back role h.0 m one.0 xs ls h.4 one.1 in
        (others.0, others.1, λ q g. let rest = others.2 q g in let first = one.2 q rest.1 in ((one.0, h.1, h.2, first.0, rest.0), first.1))

    module _
        {F : Type 0}
        (breaks : S → Frame → F → S → Type 0)
        (C : P → Frame → Unit {0} → P → Type 0)
        (Z : S → P → Type 0)
        (end : S → P → Q)
        (halt : (n m : S) (s : P) (f : Frame) (fault : F) → breaks n f fault m → R n s → (t : P) × C s f tt t × Z m t × G (end m t) n s)
        (still : (n : S) (s : P) → R n s → Z n s × G (end n s) n s)
      where
        -- what came to a stop
        stop-back : (n m : S) (s : P) (rest : List ℕ) (fault : F) → StopsAt breaks rest n fault m → R n s → (t : P) × StopsAt C rest s tt t × Z m t × G (end m t) n s
        stop-back n m s rest fault (Reading e) r =
            let h = still n s r in
            (s, Reading refl, subst (λ (k : S). Z k s) (sym e) h.0, subst (λ (k : S). G (end k s) n s) (sym e) h.1)
        stop-back n m s rest fault (Replying f behind e b) r = let h = halt n m s f fault b r in (h.0, Replying f behind e h.1, h.2, h.3)

        stopped-back : (n m : S) (s : P) (read written : List ℕ) (fault : F) → IsStopped A breaks n m read written fault → R n s → (t : P)
            × IsStopped (B (end m t)) C s t read written tt × Z m t × G (end m t) n s
        stopped-back n m s read written fault h r =
            let them = answered-back n h.between s h.frames h.replies h.answered r in
            let stop = stop-back h.between m them.0 h.rest fault h.stops them.1 in
            let back = them.2 (end m stop.0) stop.3 in (
              stop.0,
              record {
                frames = h.frames;
                replies = h.replies;
                between = them.0;
                rest = h.rest;
                answered = back.0;
                yields = h.yields;
                written_is = h.written_is;
                stops = stop.1;
              },
              stop.2,
              back.1,
            )

        last-back : (role : ℕ) (n m : S) (s : P) (fault : F) (last : Option Session) → LastStops A breaks role n m fault last → R n s →
            (t : P) × LastStops (B (end m t)) C role s t tt last × Z m t × G (end m t) n s
        last-back role n m s fault None h r = let same = still n s r in (s, refl, subst (λ (k : S). Z k s) (sym h) same.0, subst (λ (k : S). G (end k s) n s) (sym h) same.1)
        last-back role n m s fault (Some x) h r = let them = stopped-back n m s x.read x.written fault h.3 r in (them.0, (h.0, h.1, h.2, them.1), them.2, them.3)

        pub cut-off-back : (W : Type 0) (content : W → Option Content) (role : ℕ) (n m : S) (s : P) (u v : W) (fault : F) → IsCutOff A breaks content role n m u v fault → R n s →
            (t : P) × IsCutOff (B (end m t)) C content role s t u v tt × Z m t × G (end m t) n s
        cut-off-back W content role n m s u v fault h r =
            let all = all-served-back role n h.between s h.sessions h.log h.served r in
            let last = last-back role h.between m all.0 fault h.last h.stops all.1 in
            let back = all.2 (end m last.0) last.3 in
            (last.0, record { log = h.log; sessions = h.sessions; last = h.last; between = all.0; served = back.0; stops = last.1; told = h.told }, last.2, back.1)
