-- What holds of a workspace whose sessions were cut off, and what follows from a result in either case.
use Rattle.std.proofs.Common.{◌≡◌, ℕ, List, Option, None, Some, Result, Ok, Err, sym, subst}
use Rattle.std.specs.Result.{IfOk, IfErr, IsErrOf}
use Rattle.aw_out.specs.Wires.{Session, Content}
use Rattle.aw_msg.specs.Frames.{Frame}
use Rattle.aw_session.specs.Broken.{StopsAt, Reading, Replying, IsStopped}
use Rattle.aw_session.specs.Sessions.{IsCutOff, LastStops}
use Rattle.aw_session.proofs.Simulations.{answered-as, all-served-as}

module _
    (S P : Type 0)
    (A : S → Frame → List ℕ → S → Type 0)
    (B : P → Frame → List ℕ → P → Type 0)
    (R : S → P → Type 0)
    (sim : (n m : S) (s : P) (f : Frame) (x : List ℕ) → A n f x m → R n s → (t : P) × B s f x t × R m t)
    {F : Type 0}
    (breaks : S → Frame → F → S → Type 0)
    (Q : S → P → Type 0)
    (halt : (n m : S) (s : P) (f : Frame) (fault : F) → breaks n f fault m → R n s → Q m s)
    (still : (n : S) (s : P) → R n s → Q n s)
  where
    stop-with : (n m : S) (s : P) (rest : List ℕ) (fault : F) → StopsAt breaks rest n fault m → R n s → Q m s
    stop-with n m s rest fault (Reading e) r = still m s (subst (λ (k : S). R k s) (sym e) r)
    stop-with n m s rest fault (Replying f behind e b) r = halt n m s f fault b r

    stopped-with : (n m : S) (s : P) (read written : List ℕ) (fault : F) → IsStopped A breaks n m read written fault → R n s → (t : P) × Q m t
    stopped-with n m s read written fault h r =
        let them = answered-as S P A B R sim n h.between s h.frames h.replies h.answered r in
        (them.0, stop-with h.between m them.0 h.rest fault h.stops them.2)

    last-with : (role : ℕ) (n m : S) (s : P) (fault : F) (last : Option Session) → LastStops A breaks role n m fault last → R n s → (t : P) × Q m t
    last-with role n m s fault None h r = (s, still m s (subst (λ (k : S). R k s) (sym h) r))
    last-with role n m s fault (Some x) h r = stopped-with n m s x.read x.written fault h.3 r

    pub cut-off-with : (W : Type 0) (content : W → Option Content) (role : ℕ) (n m : S) (s : P) (u v : W) (fault : F) → IsCutOff A breaks content role n m u v fault → R n s → (t : P) × Q m t
    cut-off-with W content role n m s u v fault h r =
        let all = all-served-as S P A B R sim role n h.between s h.sessions h.log h.served r in
        last-with role h.between m all.0 fault h.last h.stops all.2

-- what follows from a result in either case
pub ok-map : {A E : Type 0} {P Q : A → Type 0} (r : Result A E) → IfOk r P → ((x : A) → P x → Q x) → IfOk r Q
ok-map (Ok x) p f = f x p
ok-map (Err e) p f = tt

pub err-map : {A E : Type 0} {P Q : E → Type 0} (r : Result A E) → IfErr r P → ((x : E) → P x → Q x) → IfErr r Q
err-map (Ok x) p f = tt
err-map (Err e) p f = f e p

pub in-either : {A E T : Type 0} {P : A → Type 0} {Q : E → Type 0} (r : Result A E) → IfOk r P → IfErr r Q → ((x : A) → P x → T) → ((e : E) → Q e → T) → T
in-either (Ok x) p q f h = f x p
in-either (Err e) p q f h = h e q

-- what follows from an error that is this one
pub err-of : {A E T : Type 0} {P : E → Type 0} (r : Result A E) (x : E) → IfErr r P → IsErrOf r x → ((e : E) → P e → e ≡ x → T) → T
err-of (Ok y) x p is f = absurd (cc is)
err-of (Err e) x p is f = f e p (cc is)

-- an error that is handed on
pub err-passed : {A E : Type 0} (Q : E → Type 0) (r : Result A E) (e : E) → r ≡ Err e → Q e → IfErr r Q
err-passed {A} {E} Q r e same q = subst (λ (x : Result A E). IfErr x Q) (sym same) q
