-- Frames that are answered one after the other, and their replies one behind the other.
use Rattle.std.proofs.Common.{◌≡◌, ℕ, ◌+◌, ◌≤◌, List, [], ◌∷◌, ◌++◌, length, take, Bool, true, false, Err, refl, ap, sym, subst, ◌∙◌, arith, append_assoc, append-nil, length-append}
use Rattle.aw_codec.specs.Reading.{Short}
use Rattle.aw_msg.specs.Frames.{Frame, frame}
use Rattle.aw_msg.specs.Pieces.{Yields, IsBad}
use Rattle.aw_msg.specs.Streams.{Stream}
use Rattle.aw_msg.proofs.Extensions.{frame_shorter, yields_one}
use Rattle.aw_session.specs.Broken.{StopsAt}
use Rattle.aw_session.specs.Frames.{joined, AreAnswered}
use Rattle.aw_session.specs.declared.answering.Stop.TheVariants as stop
use Rattle.aw_session.specs.Steps.{IsStep, IsBroken, IsStretch, IsStoppedStretch, IsHaltedStretch}

-- one after the others
pub answered-one : {S : Type 0} (answers : S → Frame → List ℕ → S → Type 0) (s t u : S) (fs : List Frame) (xs : List (List ℕ)) (f : Frame) (x : List ℕ) →
    AreAnswered answers s fs xs t → answers t f x u → AreAnswered answers s (fs ++ f ∷ []) (xs ++ x ∷ []) u
answered-one {S} answers s t u [] [] f x a b = (u, subst (λ (v : S). answers v f x u) a b, refl)
answered-one {S} answers s t u [] (y ∷ xs) f x a b = absurd a
answered-one {S} answers s t u (g ∷ fs) [] f x a b = absurd a
answered-one {S} answers s t u (g ∷ fs) (y ∷ xs) f x a b = (a.0, a.1, answered-one answers a.0 t u fs xs f x a.2 b)

-- some after the others
pub answered-then : {S : Type 0} (answers : S → Frame → List ℕ → S → Type 0) (s t u : S) (fs gs : List Frame) (xs ys : List (List ℕ)) →
    AreAnswered answers s fs xs t → AreAnswered answers t gs ys u → AreAnswered answers s (fs ++ gs) (xs ++ ys) u
answered-then {S} answers s t u [] gs [] ys a b = subst (λ (v : S). AreAnswered answers v gs ys u) a b
answered-then {S} answers s t u [] gs (y ∷ xs) ys a b = absurd a
answered-then {S} answers s t u (g ∷ fs) gs [] ys a b = absurd a
answered-then {S} answers s t u (g ∷ fs) gs (y ∷ xs) ys a b = (a.0, a.1, answered-then answers a.0 t u fs gs xs ys a.2 b)

pub joined-append : (xs ys : List (List ℕ)) → joined (xs ++ ys) ≡ joined xs ++ joined ys
joined-append [] ys = refl
joined-append (x ∷ xs) ys = ap (λ (t : List ℕ). x ++ t) (joined-append xs ys) ∙ sym (append_assoc x (joined xs) (joined ys))

pub joined-one : (xs : List (List ℕ)) (x : List ℕ) → joined (xs ++ x ∷ []) ≡ joined xs ++ x
joined-one xs x = joined-append xs (x ∷ []) ∙ ap (λ (t : List ℕ). joined xs ++ t) (append-nil x)

-- some frames are in front of others
pub yields-then : (bytes : List ℕ) (fs gs : List Frame) (kept rest : List ℕ) → Yields bytes fs kept → Yields kept gs rest → Yields bytes (fs ++ gs) rest
yields-then bytes [] gs kept rest h k = subst (λ (b : List ℕ). Yields b gs rest) (sym h) k
yields-then bytes (f ∷ fs) gs kept rest h k = (h.0, h.1, yields-then h.0 fs gs kept rest h.2 k)

-- each frame has a byte
pub yields-count : (bytes : List ℕ) (fs : List Frame) (rest : List ℕ) → Yields bytes fs rest → length fs + length rest ≤ length bytes
yields-count bytes [] rest h = let e : length bytes ≡ length rest = ap length h in omega (arith, e)
yields-count bytes (f ∷ fs) rest h = let one = frame_shorter bytes f h.0 h.1 in let others = yields-count h.0 fs rest h.2 in omega arith

-- nothing was answered yet
pub stretch-none : {S : Type 0} (answers : S → Frame → List ℕ → S → Type 0) (talks : List ℕ → Bool → Type 0) (s : S) (from : List ℕ) → talks [] false → IsStretch answers talks s s from from 0
stretch-none answers talks s from t = record { frames = []; replies = []; answered = refl; yields = refl; counted = refl; talked = t }

-- ---- one step more. `A` tells what went over the wire before it, `B` in it, and `C` in all.

abbrev pub Goes-together : (List ℕ → Bool → Type 0) → (List ℕ → Bool → Type 0) → (List ℕ → Bool → Type 0) → Type 0
Goes-together A B C = (w x : List ℕ) (b : Bool) → A w false → B x b → C (w ++ x) b

-- a frame was answered
pub stretch-step : {S : Type 0} (answers : S → Frame → List ℕ → S → Type 0) (A B C : List ℕ → Bool → Type 0) (s t t' : S) (from : List ℕ) (mid to : Stream) (n : ℕ) → Goes-together A B C →
    IsStretch answers A s t from mid.bytes n → IsStep answers B t t' mid to → IsStretch answers C s t' from to.bytes (n + 1)
stretch-step {S} answers A B C s t t' from mid to n go old step = record {
  frames = old.frames ++ step.request ∷ [];
  replies = old.replies ++ step.reply ∷ [];
  answered = answered-one answers s t t' old.frames old.replies step.request step.reply old.answered step.answered;
  yields = yields_one from old.frames mid.bytes step.request to.bytes old.yields step.taken;
  counted = omega (arith, old.counted, length-append old.frames (step.request ∷ []));
  talked = subst (λ (w : List ℕ). C w false) (sym (joined-one old.replies step.reply)) (go (joined old.replies) step.reply false old.talked step.talked);
}

-- less than a frame is left
pub stretch-waits : {S : Type 0} (answers : S → Frame → List ℕ → S → Type 0) (A B C : List ℕ → Bool → Type 0) (s t t' : S) (from mid to : List ℕ) (n : ℕ) → Goes-together A B C →
    IsStretch answers A s t from mid n → frame mid ≡ Err Short → to ≡ mid → t' ≡ t → B [] false → IsStoppedStretch answers C s t' from to n stop.Waits
stretch-waits {S} answers A B C s t t' from mid to n go old short e f b = record {
  frames = old.frames;
  replies = old.replies;
  answered = subst (λ (x : S). AreAnswered answers s old.frames old.replies x) (sym f) old.answered;
  yields = subst (λ (x : List ℕ). Yields from old.frames x) (sym e) old.yields;
  counted = old.counted;
  stops = (ap frame e ∙ short, subst (λ (w : List ℕ). C w false) (append-nil (joined old.replies)) (go (joined old.replies) [] false old.talked b));
}

-- no frame can stand there
pub stretch-bad : {S : Type 0} (answers : S → Frame → List ℕ → S → Type 0) (A B C : List ℕ → Bool → Type 0) (s t t' : S) (from mid to : List ℕ) (n : ℕ) → Goes-together A B C →
    IsStretch answers A s t from mid n → IsBad (frame mid) → to ≡ mid → t' ≡ t → B [] false → IsStoppedStretch answers C s t' from to n stop.Bad
stretch-bad {S} answers A B C s t t' from mid to n go old bad e f b = record {
  frames = old.frames;
  replies = old.replies;
  answered = subst (λ (x : S). AreAnswered answers s old.frames old.replies x) (sym f) old.answered;
  yields = subst (λ (x : List ℕ). Yields from old.frames x) (sym e) old.yields;
  counted = old.counted;
  stops = (subst (λ (x : List ℕ). IsBad (frame x)) (sym e) bad, subst (λ (w : List ℕ). C w false) (append-nil (joined old.replies)) (go (joined old.replies) [] false old.talked b));
}

-- the reply was written in part
pub stretch-broken : {S : Type 0} (answers : S → Frame → List ℕ → S → Type 0) (A B C : List ℕ → Bool → Type 0) (s t t' : S) (from : List ℕ) (mid to : Stream) (n : ℕ) → Goes-together A B C →
    IsStretch answers A s t from mid.bytes n → IsBroken answers B t t' mid to → IsStoppedStretch answers C s t' from to.bytes (n + 1) stop.Broken
stretch-broken {S} answers A B C s t t' from mid to n go old step = record {
  frames = old.frames ++ step.request ∷ [];
  replies = old.replies ++ step.reply ∷ [];
  answered = answered-one answers s t t' old.frames old.replies step.request step.reply old.answered step.answered;
  yields = yields_one from old.frames mid.bytes step.request to.bytes old.yields step.taken;
  counted = omega (arith, old.counted, length-append old.frames (step.request ∷ []));
  stops = (
    joined old.replies ++ take step.count step.reply,
    record { whole = old.replies; last = step.reply; count = step.count; are = refl; part = step.part; written_is = refl },
    go (joined old.replies) (take step.count step.reply) true old.talked step.talked,
  );
}

-- the next frame got no reply
pub stretch-halts : {S F : Type 0} (answers : S → Frame → List ℕ → S → Type 0) (breaks : S → Frame → F → S → Type 0) (A B C : List ℕ → Bool → Type 0)
    (s t t' : S) (from mid : List ℕ) (n : ℕ) (fault : F) → Goes-together A B C →
    IsStretch answers A s t from mid n → StopsAt breaks mid t fault t' → B [] false → IsHaltedStretch answers breaks C s t' from fault
stretch-halts {S} {F} answers breaks A B C s t t' from mid n fault go old stops b = record {
  frames = old.frames;
  replies = old.replies;
  between = t;
  rest = mid;
  answered = old.answered;
  yields = old.yields;
  talked = subst (λ (w : List ℕ). C w false) (append-nil (joined old.replies)) (go (joined old.replies) [] false old.talked b);
  stops = stops;
}
