-- Several sessions, one after the other.
use Rattle.std.proofs.Common.{◌≡◌, ℕ, List, [], ◌∷◌, ◌++◌, Bool, true, false, ◌||◌, Option, None, Some, refl, ap, sym, subst, ◌∙◌, arith, append_assoc, append-nil}
use Rattle.aw_out.specs.Wires.{Session, Content, Both, with_last, last_left, unread, fresh, Opens, Arrives}
use Rattle.aw_out.proofs.WireLemmas.{with_last-append, last_left-append}
use Rattle.aw_out.specs.declared.edge.Arrival.TheVariants.{Session as Came}
use Rattle.aw_msg.specs.Frames.{Frame}
use Rattle.aw_session.specs.Course.{IsDone, IsHalted}
use Rattle.aw_session.specs.Served.{AreServed, IsServed, Ends}
use Rattle.aw_session.specs.Sessions.{is_fault, has_fault, Follow, IsServing, IsNext, ServesNext, StopsNext}
use Rattle.aw_session.specs.Talking.{grown, Grows, Counts, Talks}
use Rattle.aw_session.specs.declared.log.How.{How}
use Rattle.aw_session.specs.declared.log.How.TheVariants.{End, Cut, Bad, Long, Fault}
use Rattle.aw_session.specs.declared.log.SessionLog.{SessionLog}
use Rattle.aw_session.specs.declared.serving.Stopped.TheVariants.{Node}

-- no session came
pub follow-none : (a : Option Content) → Both (Follow []) a a
follow-none None = tt
follow-none (Some a) = sym (append-nil a.passed)

-- some came and then others
pub follow-then : (xs ys : List Session) (a b c : Option Content) → Both (Follow xs) a b → Both (Follow ys) b c → Both (Follow (xs ++ ys)) a c
follow-then xs ys None None None g h = tt
follow-then xs ys None None (Some c) g h = absurd h
follow-then xs ys None (Some b) c g h = absurd g
follow-then xs ys (Some a) None c g h = absurd g
follow-then xs ys (Some a) (Some b) None g h = absurd h
follow-then xs ys (Some a) (Some b) (Some c) g h = h ∙ ap (λ (t : List Session). t ++ ys) g ∙ append_assoc a.passed xs ys

-- a session in which this went over the wire, and then this is left to read
abbrev pub session_with : ℕ → Bool → List ℕ → List ℕ → Bool → List ℕ → Session
session_with role dialed read written failed left = record { role = role; dialed = dialed; read = read; left = left; written = written; failed = failed }

-- one was opened, and this went over the wire in it
pub follow-one : (role : ℕ) (dialed : Bool) (r w : List ℕ) (f : Bool) (a b c : Option Content) → Both (Opens role dialed) a b →
    Both (Grows r w f) b c → Both (Follow (session_with role dialed r w f (unread c) ∷ [])) a c
follow-one role dialed r w f None None None g h = tt
follow-one role dialed r w f None None (Some c) g h = absurd h
follow-one role dialed r w f None (Some b) c g h = absurd g
follow-one role dialed r w f (Some a) None c g h = absurd g
follow-one role dialed r w f (Some a) (Some b) None g h = absurd h
follow-one role dialed r w f (Some a) (Some b) (Some c) g h =
    let all : c.passed ≡ a.passed ++ session_with role dialed r w f h.0 ∷ [] = h.1 ∙ ap (with_last (grown r w f h.0)) g.1 ∙ with_last-append (grown r w f h.0) a.passed (fresh role dialed g.0) in
    let left : last_left c.passed ≡ h.0 = ap last_left all ∙ last_left-append a.passed (session_with role dialed r w f h.0) in
    all ∙ ap (λ (l : List ℕ). a.passed ++ session_with role dialed r w f l ∷ []) (sym left)

-- one came
came-opens : (role : ℕ) (a b : Option Content) → Both (Arrives role Came) a b → Both (Opens role false) a b
came-opens role None None g = tt
came-opens role None (Some b) g = absurd g
came-opens role (Some a) None g = absurd g
came-opens role (Some a) (Some b) g = g.0

-- faults are added up
pub counts-both : (f g : Bool) (x y z : ℕ) → Counts f x y → Counts g y z → Counts (f || g) x z
counts-both true true x y z a b = (omega (arith, a.0, b.0), omega (arith, a.1, b.0))
counts-both true false x y z a b = (omega (arith, a.0, b), omega (arith, a.1, b))
counts-both false true x y z a b = (omega (arith, a, b.0), omega (arith, a, b.1))
counts-both false false x y z a b = b ∙ a

pub or-assoc : (a b c : Bool) → ((a || b) || c) ≡ (a || (b || c))
or-assoc true b c = refl
or-assoc false b c = refl

pub or-false : (b : Bool) → (b || false) ≡ b
or-false true = refl
or-false false = refl

has_fault-one : (ls : List SessionLog) (l : SessionLog) → has_fault (ls ++ l ∷ []) ≡ (has_fault ls || is_fault l.how)
has_fault-one [] l = or-false (is_fault l.how)
has_fault-one (k ∷ ls) l = ap (λ (b : Bool). is_fault k.how || b) (has_fault-one ls l) ∙ sym (or-assoc (is_fault k.how) (has_fault ls) (is_fault l.how))

-- one session more
served-one : {S : Type 0} (answers : S → Frame → List ℕ → S → Type 0) (role : ℕ) (s t t' : S) (xs : List Session) (ls : List SessionLog) (x : Session) (l : SessionLog) →
    AreServed answers role s xs ls t → x.role ≡ role → x.dialed ≡ false → IsServed answers t t' x.read x.written x.failed x.left l → AreServed answers role s (xs ++ x ∷ []) (ls ++ l ∷ []) t'
served-one {S} answers role s t t' [] [] x l h r d k = (t', r, d, subst (λ (m : S). IsServed answers m t' x.read x.written x.failed x.left l) h k, refl)
served-one {S} answers role s t t' [] (m ∷ ls) x l h r d k = absurd h
served-one {S} answers role s t t' (y ∷ xs) [] x l h r d k = absurd h
served-one {S} answers role s t t' (y ∷ xs) (m ∷ ls) x l h r d k = (h.0, h.1, h.2, h.3, served-one answers role h.0 t t' xs ls x l h.4 r d k)

-- and one more
pub serving-one : {S W : Type 0} (answers : S → Frame → List ℕ → S → Type 0) (content : W → Option Content) (faults failed_openings : W → ℕ)
    (role : ℕ) (s t t' : S) (u v v' : W) (log : List SessionLog) (entry : SessionLog) →
    IsServing answers content faults failed_openings role s t u v log → IsNext answers content faults failed_openings role t t' v v' entry →
    IsServing answers content faults failed_openings role s t' u v' (log ++ entry ∷ [])
serving-one {S} {W} answers content faults failed_openings role s t t' u v v' log entry g h = record {
  sessions = g.sessions ++ h.session ∷ [];
  served = served-one answers role s t t' g.sessions log h.session entry g.served h.role_is h.came h.served;
  told = follow-then g.sessions (h.session ∷ []) (content u) (content v) (content v') g.told h.told;
  counts = subst (λ (b : Bool). Counts b (faults u) (faults v')) (sym (has_fault-one log entry)) (counts-both (has_fault log) (is_fault entry.how) (faults u) (faults v) (faults v') g.counts h.counts);
  openings = h.openings ∙ g.openings;
}

-- a session failed exactly where it broke off
failed-so : (how : How) (read written : List ℕ) (failed : Bool) (frames : List Frame) (replies : List (List ℕ)) → Ends how read written failed frames replies → failed ≡ is_fault how
failed-so End read written failed frames replies h = h.0
failed-so Cut read written failed frames replies h = h.0
failed-so Bad read written failed frames replies h = h.0
failed-so Long read written failed frames replies h = h.0
failed-so Fault read written failed frames replies h = h.0

-- a session that came was served
pub next-done : {S W : Type 0} (answers : S → Frame → List ℕ → S → Type 0) (content : W → Option Content) (is_open : W → Bool)
    (faults failed_openings : W → ℕ) (role : ℕ) (s t : S) (u v w : W) (log : SessionLog) →
    Both (Arrives role Came) (content u) (content v) → faults v ≡ faults u → failed_openings v ≡ failed_openings u →
    IsDone answers (Talks content is_open faults failed_openings) content s t v w log → IsNext answers content faults failed_openings role s t u w log
next-done {S} {W} answers content is_open faults failed_openings role s t u v w log came f o done = record {
  session = session_with role false done.read done.written done.failed (unread (content w));
  role_is = refl;
  came = refl;
  served = done.served;
  told = follow-one role false done.read done.written done.failed (content u) (content v) (content w) (came-opens role (content u) (content v) came) done.talked.told;
  counts = subst (λ (b : Bool). Counts b (faults u) (faults w)) (failed-so log.how done.read done.written done.failed done.served.frames done.served.replies done.served.ends)
      (subst (λ (n : ℕ). Counts done.failed n (faults w)) f done.talked.counts);
  openings = done.talked.openings ∙ o;
}

-- in a session that came a frame got no reply
pub next-halted : {S W F : Type 0} (answers : S → Frame → List ℕ → S → Type 0) (breaks : S → Frame → F → S → Type 0) (content : W → Option Content)
    (is_open : W → Bool) (faults failed_openings : W → ℕ) (role : ℕ) (s t : S) (u v w : W) (fault : F) →
    Both (Arrives role Came) (content u) (content v) → IsHalted answers breaks (Talks content is_open faults failed_openings) s t v w fault →
    StopsNext answers breaks content failed_openings role s t u w (Node fault)
next-halted {S} {W} {F} answers breaks content is_open faults failed_openings role s t u v w fault came halted = (
  Some (session_with role false halted.read halted.written false (unread (content w))),
  (refl, refl, refl, halted.stopped),
  follow-one role false halted.read halted.written false (content u) (content v) (content w) (came-opens role (content u) (content v) came) halted.talked.told,
)

-- what came of it, where that is known
pub serves-at : {S W : Type 0} (answers : S → Frame → List ℕ → S → Type 0) (content : W → Option Content) (faults failed_openings : W → ℕ) (role : ℕ)
    (s t : S) (u v : W) (old new : List SessionLog) (b : Bool) → b ≡ true →
    ServesNext answers content faults failed_openings role s t u v old new b → ServesNext answers content faults failed_openings role s t u v old new true
serves-at {S} {W} answers content faults failed_openings role s t u v old new b e h = subst (λ (x : Bool). ServesNext answers content faults failed_openings role s t u v old new x) e h
