-- What is read of frames is spelled so, and what is spelled so is read.
use Rattle.std.proofs.Common.{◌≡◌, ℕ, zero, suc, ◌<◌, ◌≤◌, ◌^◌, true, false, ltb, ◌==◌, List, [], ◌∷◌, ◌++◌, length, take, drop, Option, None, Some}
use Rattle.std.proofs.Common.{option_map, Result, Ok, Err, refl, sym, ap, subst, ◌∙◌, append_assoc, arith}
use Rattle.std.proofs.lemmas.Bool.{ltb-false, le-ltb, le-leb, eqb-true}
use Rattle.std.proofs.lemmas.List.{take_at, drop_at, take-append-drop, length-append, length-take, append-nil, nil_from_length}
use Rattle.std.proofs.lemmas.Option.{cond_some}
use Rattle.std.specs.Int.{w32, w64, to_be_bytes}
use Rattle.aw_term.proofs.LastSteps.{mapped as mapped_is}
use Rattle.aw_codec.specs.Bytes.{AreBytes}
use Rattle.aw_codec.specs.Reading.{Fault, Short, Reader, ◌>>=◌, byte, number, such_that}
use Rattle.aw_codec.specs.Names.{is_from_1_to}
use Rattle.aw_codec.specs.Choices.{spelled_choice, choice}
use Rattle.aw_codec.proofs.Laws.{Law, Takes, Takes-then, AreBytes-drop, AreBytes-take, bind_ok, ok_is, guard_is, byte_law, number32, number64, such_that_law}
use Rattle.aw_codec.proofs.ChoiceLaws.{choice_law}
use Rattle.aw_msg.specs.Messages.{spelled_message, message}
use Rattle.aw_msg.specs.Frames.{Frame, Push, Choose, Pull, Listed, frame_kind, spelled_payload, spelled_frame, FrameSized, FrameInRange, all_of, whole, payload, has_length, known, payload_at, frame}
use Rattle.aw_msg.proofs.MessageLaws.{message_law}
use Rattle.aw_msg.proofs.Lengths.{payload_short}

-- ---- all of the bytes

whole_is : {A : Type 0} (read : Result (A × List ℕ) Fault) (x : A) → all_of read ≡ Some x → read ≡ Ok (x, [])
whole_is {A} (Ok y) x e =
    let (h, known) = cond_some (length y.1 == 0) y.0 x e in
    ap (λ z. Ok (z, y.1)) known ∙ ap (λ (rest : List ℕ). Ok (x, rest)) (nil_from_length y.1 (eqb-true (length y.1) 0 h))
whole_is (Err f) x e = absurd cc

pub whole_taken : {A : Type 0} {r : Reader A} {s : A → List ℕ} {S R : A → Type 0} (law : Law r s S R) (bytes : List ℕ) (x : A) → AreBytes bytes → whole r bytes ≡ Some x → (bytes ≡ s x) × S x × R x
whole_taken {A} {r} {s} law bytes x fits e =
    let t = law.taken bytes x [] fits (whole_is (r bytes) x e) in
    (t.0.parts ∙ append-nil (s x), t.1, t.2)

pub whole_again : {A : Type 0} {r : Reader A} {s : A → List ℕ} {S R : A → Type 0} (law : Law r s S R) (x : A) → S x → R x → whole r (s x) ≡ Some x
whole_again {A} {r} {s} law x sized range = ap all_of (ap r (sym (append-nil (s x))) ∙ law.again x [] sized range)

-- ---- payloads

abbrev PayloadTakes : ℕ → List ℕ → Frame → Type 0
PayloadTakes kind bytes f = (bytes ≡ spelled_payload f) × (frame_kind f ≡ kind) × FrameSized f × FrameInRange f

payload_taken : (kind : ℕ) (bytes : List ℕ) (f : Frame) → AreBytes bytes → payload kind bytes ≡ Some f → PayloadTakes kind bytes f
unfolding payload
payload_taken zero bytes f fits e = absurd cc
payload_taken (suc zero) bytes f fits e =
    let t = mapped_is Push (whole message bytes) f e in let w = whole_taken message_law bytes t.0 fits t.1 in subst (PayloadTakes 1 bytes) t.2 (w.0, refl, w.1, w.2)
payload_taken (suc (suc zero)) bytes f fits e =
    let t = mapped_is Choose (whole choice bytes) f e in let w = whole_taken choice_law bytes t.0 fits t.1 in subst (PayloadTakes 2 bytes) t.2 (w.0, refl, w.1, w.2)
payload_taken (suc (suc (suc zero))) bytes f fits e =
    let t = mapped_is Pull (whole (number w64) bytes) f e in let w = whole_taken number64 bytes t.0 fits t.1 in subst (PayloadTakes 3 bytes) t.2 (w.0, refl, w.1, tt)
payload_taken (suc (suc (suc (suc zero)))) bytes f fits e =
    let t = mapped_is Listed (whole (number w64) bytes) f e in let w = whole_taken number64 bytes t.0 fits t.1 in subst (PayloadTakes 4 bytes) t.2 (w.0, refl, w.1, tt)
payload_taken (suc (suc (suc (suc (suc k))))) bytes f fits e = absurd cc

payload_again : (f : Frame) → FrameSized f → FrameInRange f → payload (frame_kind f) (spelled_payload f) ≡ Some f
unfolding payload
payload_again (Push m) sized range = ap (option_map Push) (whole_again message_law m sized range)
payload_again (Choose c) sized range = ap (option_map Choose) (whole_again choice_law c sized range)
payload_again (Pull place) sized range = ap (option_map Pull) (whole_again number64 place sized tt)
payload_again (Listed place) sized range = ap (option_map Listed) (whole_again number64 place sized tt)

pub known_is : (left : ℕ) (o : Option Frame) (rest : List ℕ) (f : Frame) (behind : List ℕ) → known left o rest ≡ Ok (f, behind) → (o ≡ Some f) × (rest ≡ behind)
known_is left None rest f behind e = absurd cc
known_is left (Some g) rest f behind e = let p = ok_is (g, rest) (f, behind) e in (ap (λ (q : Frame × List ℕ). Some q.0) p, ap (λ (q : Frame × List ℕ). q.1) p)

-- ---- frames

kind_law : Law (such_that (is_from_1_to 4) byte) (λ b. b ∷ []) (λ b. b < 2 ^ 8) (λ b. Unit {0} × (is_from_1_to 4 b ≡ true))
kind_law = such_that_law (is_from_1_to 4) byte_law

length_law : (kind : ℕ) → Law (such_that (has_length kind) (number w32)) (to_be_bytes w32) (λ n. n < 2 ^ 32) (λ n. Unit {0} × (has_length kind n ≡ true))
length_law kind = such_that_law (has_length kind) number32

frame_taken : (bytes : List ℕ) (f : Frame) (rest : List ℕ) → AreBytes bytes → frame bytes ≡ Ok (f, rest) → Takes bytes (spelled_frame f) rest × FrameSized f × FrameInRange f
unfolding frame
frame_taken bytes f rest fits e =
    let a = bind_ok (such_that (is_from_1_to 4) byte bytes) (λ kind. such_that (has_length kind.0) (number w32) kind.1 >>= λ n. payload_at kind.0 n.0 n.1) (f, rest) e in
    let b = bind_ok (such_that (has_length a.0.0) (number w32) a.0.1) (λ n. payload_at a.0.0 n.0 n.1) (f, rest) a.2 in
    let n = b.0.0 in
    let behind = b.0.1 in
    let one = kind_law.taken bytes a.0.0 a.0.1 fits a.1 in
    let two = (length_law a.0.0).taken a.0.1 n behind one.0.rest_bytes b.1 in
    let g = guard_is (ltb (length behind) n) Short (known (length behind) (payload a.0.0 (take n behind)) (drop n behind)) (f, rest) b.2 in
    let k = known_is (length behind) (payload a.0.0 (take n behind)) (drop n behind) f rest g.1 in
    let p = payload_taken a.0.0 (take n behind) f (AreBytes-take n behind two.0.rest_bytes) k.0 in
    let long : n ≤ length behind = ltb-false (length behind) n g.0 in
    let count : length (spelled_payload f) ≡ n = sym (ap length p.0) ∙ omega (arith, length-take n behind) in
    let last : Takes behind (spelled_payload f) rest = record {
      parts = sym (take-append-drop n behind) ∙ ap (λ (t : List ℕ). t ++ drop n behind) p.0 ∙ ap (λ (t : List ℕ). spelled_payload f ++ t) k.1;
      rest_bytes = subst AreBytes k.1 (AreBytes-drop n behind two.0.rest_bytes);
    } in
    let middle = Takes-then a.0.1 (to_be_bytes w32 n) behind (spelled_payload f) rest two.0 last in
    let all = Takes-then bytes (a.0.0 ∷ []) a.0.1 (to_be_bytes w32 n ++ spelled_payload f) rest one.0 middle in (
      subst (λ (t : List ℕ). Takes bytes t rest) (ap (λ m. m ∷ (to_be_bytes w32 n ++ spelled_payload f)) (sym p.1)
          ∙ ap (λ m. frame_kind f ∷ (to_be_bytes w32 m ++ spelled_payload f)) (sym count)) all,
      p.2,
      p.3,
    )

kind_fits : (f : Frame) → is_from_1_to 4 (frame_kind f) ≡ true
kind_fits (Push m) = refl
kind_fits (Choose c) = refl
kind_fits (Pull place) = refl
kind_fits (Listed place) = refl

kind_sized : (f : Frame) → frame_kind f < 2 ^ 8
kind_sized (Push m) = omega arith
kind_sized (Choose c) = omega arith
kind_sized (Pull place) = omega arith
kind_sized (Listed place) = omega arith

length_fits : (f : Frame) → FrameInRange f → has_length (frame_kind f) (length (spelled_payload f)) ≡ true
length_fits (Push m) h = le-leb (length (spelled_message m)) 1048576 (payload_short (Push m) h)
length_fits (Choose c) h = le-leb (length (spelled_choice c)) 1048576 (payload_short (Choose c) h)
length_fits (Pull place) h = refl
length_fits (Listed place) h = refl

payload_at_again : (f : Frame) (rest : List ℕ) → FrameSized f → FrameInRange f → payload_at (frame_kind f) (length (spelled_payload f)) (spelled_payload f ++ rest) ≡ Ok (f, rest)
payload_at_again f rest sized range =
    let p = spelled_payload f in
    let long : ltb (length (p ++ rest)) (length p) ≡ false = le-ltb _ _ (omega (arith, length-append p rest)) in
    rw (long, take_at p rest (length p) refl, drop_at p rest (length p) refl, payload_again f sized range) refl

frame_again : (f : Frame) (rest : List ℕ) → FrameSized f → FrameInRange f → frame (spelled_frame f ++ rest) ≡ Ok (f, rest)
unfolding frame
frame_again f rest sized range =
    let p = spelled_payload f in
    let short = payload_short f range in
    let count : length p < 2 ^ 32 = omega arith in
    let first = kind_law.again (frame_kind f) ((to_be_bytes w32 (length p) ++ p) ++ rest) (kind_sized f) (tt, kind_fits f) in
    let second = (length_law (frame_kind f)).again (length p) (p ++ rest) count (tt, length_fits f range) in
    ap (λ r. r >>= λ kind. such_that (has_length kind.0) (number w32) kind.1 >>= λ n. payload_at kind.0 n.0 n.1) first
    ∙ ap (λ (t : List ℕ). such_that (has_length (frame_kind f)) (number w32) t >>= λ n. payload_at (frame_kind f) n.0 n.1) (append_assoc (to_be_bytes w32 (length p)) p rest)
    ∙ ap (λ r. r >>= λ n. payload_at (frame_kind f) n.0 n.1) second
    ∙ payload_at_again f rest sized range

pub frame_law : Law frame spelled_frame FrameSized FrameInRange
frame_law = record { taken = frame_taken; again = frame_again }
