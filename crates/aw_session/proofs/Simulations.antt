-- Sessions as a simpler workspace sees them: where `R` relates the one to the other, and what a reply does to the one it does to the other.
use Rattle.std.proofs.Common.{ℕ, List, [], ◌∷◌, Bool, Option, None, Some, refl, sym, subst}
use Rattle.aw_out.specs.Wires.{Session, Content}
use Rattle.aw_msg.specs.Frames.{Frame}
use Rattle.aw_session.specs.Broken.{Stays, Reading, IsStopped}
use Rattle.aw_session.specs.Frames.{AreAnswered}
use Rattle.aw_session.specs.Served.{IsServed, AreServed}
use Rattle.aw_session.specs.Sessions.{IsServing, IsUnopened, IsCutOff, LastStops}
use Rattle.aw_session.specs.declared.log.SessionLog.{SessionLog}

module _
    (S P : Type 0)
    (A : S → Frame → List ℕ → S → Type 0)
    (B : P → Frame → List ℕ → P → Type 0)
    (R : S → P → Type 0)
    (sim : (n m : S) (s : P) (f : Frame) (x : List ℕ) → A n f x m → R n s → (t : P) × B s f x t × R m t)
  where
    -- frames
    pub answered-as : (n m : S) (s : P) (fs : List Frame) (xs : List (List ℕ)) → AreAnswered A n fs xs m → R n s → (t : P) × AreAnswered B s fs xs t × R m t
    answered-as n m s [] [] a r = (s, refl, subst (λ (k : S). R k s) (sym a) r)
    answered-as n m s [] (x ∷ xs) a r = absurd a
    answered-as n m s (f ∷ fs) [] a r = absurd a
    answered-as n m s (f ∷ fs) (x ∷ xs) a r =
        let one = sim n a.0 s f x a.1 r in
        let others = answered-as a.0 m one.0 fs xs a.2 one.2 in
        (others.0, (one.0, one.1, others.1), others.2)

    -- a session
    pub served-as : (n m : S) (s : P) (read written : List ℕ) (failed : Bool) (left : List ℕ) (l : SessionLog) → IsServed A n m read written failed
        left l → R n s → (t : P) × IsServed B s t read written failed left l × R m t
    served-as n m s read written failed left l h r =
        let them = answered-as n m s h.frames h.replies h.answered r in
        (them.0, record { frames = h.frames; replies = h.replies; answered = them.1; counted = h.counted; ends = h.ends; none_left = h.none_left }, them.2)

    -- sessions
    pub all-served-as : (role : ℕ) (n m : S) (s : P) (xs : List Session) (ls : List SessionLog) → AreServed A role n xs ls m → R n s → (t : P) × AreServed B role s xs ls t × R m t
    all-served-as role n m s [] [] h r = (s, refl, subst (λ (k : S). R k s) (sym h) r)
    all-served-as role n m s [] (l ∷ ls) h r = absurd h
    all-served-as role n m s (x ∷ xs) [] h r = absurd h
    all-served-as role n m s (x ∷ xs) (l ∷ ls) h r =
        let one = served-as n h.0 s x.read x.written x.failed x.left l h.3 r in
        let others = all-served-as role h.0 m one.0 xs ls h.4 one.2 in
        (others.0, (one.0, h.1, h.2, one.1, others.1), others.2)

    -- a session that stopped, with whatever error
    stopped-as : {F : Type 0} (breaks : S → Frame → F → S → Type 0) (n m : S) (s : P) (read written : List ℕ) (fault : F) (G : Type 0) (other : G) → IsStopped A breaks n m read written fault → R n s →
        (t : P) × IsStopped {F = G} B Stays s t read written other
    stopped-as {F} breaks n m s read written fault G other h r =
        let them = answered-as n h.between s h.frames h.replies h.answered r in
        (them.0, record { frames = h.frames; replies = h.replies; between = them.0; rest = h.rest; answered = them.1; yields = h.yields; written_is = h.written_is; stops = Reading refl })

    -- what was served
    pub serving-as : (W : Type 0) (content : W → Option Content) (faults failed_openings : W → ℕ) (role : ℕ) (n m : S) (s : P) (u v : W)
        (log : List SessionLog) → IsServing A content faults failed_openings role n m u v log → R n s →
        (t : P) × IsServing B content faults failed_openings role s t u v log
    serving-as W content faults failed_openings role n m s u v log h r =
        let all = all-served-as role n m s h.sessions log h.served r in
        (all.0, record { sessions = h.sessions; served = all.1; told = h.told; counts = h.counts; openings = h.openings })

    -- before no session could be opened
    pub unopened-as : (W : Type 0) (content : W → Option Content) (failed_openings : W → ℕ) (role : ℕ) (n m : S) (s : P) (u v : W) → IsUnopened A content failed_openings role n m u v → R n s →
        (t : P) × IsUnopened B content failed_openings role s t u v
    unopened-as W content failed_openings role n m s u v h r =
        let all = all-served-as role n m s h.sessions h.log h.served r in
        (all.0, record { log = h.log; sessions = h.sessions; served = all.1; told = h.told; rose = h.rose })

    last-as : {F : Type 0} (breaks : S → Frame → F → S → Type 0) (role : ℕ) (n m : S) (s : P) (fault : F) (G : Type 0) (other : G)
        (last : Option Session) → LastStops A breaks role n m fault last → R n s →
        (t : P) × LastStops {F = G} B Stays role s t other last
    last-as {F} breaks role n m s fault G other None h r = (s, refl)
    last-as {F} breaks role n m s fault G other (Some x) h r = let them = stopped-as breaks n m s x.read x.written fault G other h.3 r in (them.0, (h.0, h.1, h.2, them.1))

    -- before a frame got no reply
    pub cut-off-as : {F : Type 0} (breaks : S → Frame → F → S → Type 0) (W : Type 0) (content : W → Option Content) (role : ℕ) (n m : S) (s : P) (u v : W) (fault : F) (G : Type 0) (other : G) →
        IsCutOff A breaks content role n m u v fault → R n s → (t : P) × IsCutOff {F = G} B Stays content role s t u v other
    cut-off-as {F} breaks W content role n m s u v fault G other h r =
        let all = all-served-as role n h.between s h.sessions h.log h.served r in
        let last = last-as breaks role h.between m all.0 fault G other h.last h.stops all.2 in
        (last.0, record { log = h.log; sessions = h.sessions; last = h.last; between = all.0; served = all.1; stops = last.1; told = h.told })
