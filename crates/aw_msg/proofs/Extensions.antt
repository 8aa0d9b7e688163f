-- What was read of frames, or cannot be read, stays so where more bytes follow.
use Rattle.std.proofs.Common.{◌≡◌, ℕ, ◌<◌, ◌≤◌, Bool, true, false, cond, ltb, List, [], ◌∷◌, ◌++◌, length, take, drop, Option, None, Some, Ok, Err, refl, sym, ap, subst, ◌∙◌, arith}
use Rattle.std.proofs.lemmas.Bool.{ltb-false}
use Rattle.std.proofs.lemmas.List.{take-append-le, drop-append-le, length-drop}
use Rattle.std.specs.Int.{w32}
use Rattle.aw_codec.specs.Reading.{Short, Bad, Reader, byte, number, such_that}
use Rattle.aw_codec.specs.Names.{is_from_1_to}
use Rattle.aw_codec.proofs.Laws.{bind_ok, guard_is, rule_ok, ok_is, ok_not_err}
use Rattle.aw_codec.proofs.Extending.{Extends, still_long, byte_shorter, byte_extends, number_extends, such_that_extends, next, next_extends, via, fault_of, long_bad}
use Rattle.aw_msg.specs.Frames.{Frame, payload, has_length, known, payload_at, frame}
use Rattle.aw_msg.specs.Pieces.{Yields, IsBad, HasEnded, Splits}
use Rattle.aw_msg.proofs.FrameLaws.{known_is}

-- ---- payloads and frames

known_bad : (n : ℕ) (o : Option Frame) (rest : List ℕ) (left : ℕ) → known n o rest ≡ Err (Bad left) → o ≡ None
known_bad n None rest left e = refl
known_bad n (Some f) rest left e = absurd cc

payload_ok : (kind n : ℕ) (bytes : List ℕ) (f : Frame) (rest more : List ℕ) → payload_at kind n bytes ≡ Ok (f, rest) → payload_at kind n (bytes ++ more) ≡ Ok (f, rest ++ more)
payload_ok kind n bytes f rest more e =
    let g = guard_is (ltb (length bytes) n) Short (known (length bytes) (payload kind (take n bytes)) (drop n bytes)) (f, rest) e in
    let k = known_is (length bytes) (payload kind (take n bytes)) (drop n bytes) f rest g.1 in
    let long : n ≤ length bytes = ltb-false _ _ g.0 in
    rw (still_long n bytes more long, take-append-le n bytes more long, drop-append-le n bytes more long, k.0) (ap (λ (t : List ℕ). Ok (f, t ++ more)) k.1)

payload_bad : (kind n : ℕ) (bytes more : List ℕ) (left : ℕ) → payload_at kind n bytes ≡ Err (Bad left) → (k : ℕ) × (payload_at kind n (bytes ++ more) ≡ Err (Bad k))
payload_bad kind n bytes more left e =
    let g = long_bad (ltb (length bytes) n) (known (length bytes) (payload kind (take n bytes)) (drop n bytes)) left e in
    let none = known_bad (length bytes) (payload kind (take n bytes)) (drop n bytes) left g.1 in
    let long : n ≤ length bytes = ltb-false _ _ g.0 in
    (length (bytes ++ more), rw (still_long n bytes more long, take-append-le n bytes more long, none) refl)

payload_shorter : (kind n : ℕ) (bytes : List ℕ) (f : Frame) (rest : List ℕ) → payload_at kind n bytes ≡ Ok (f, rest) → length rest ≤ length bytes
payload_shorter kind n bytes f rest e =
    let g = guard_is (ltb (length bytes) n) Short (known (length bytes) (payload kind (take n bytes)) (drop n bytes)) (f, rest) e in
    let k = known_is (length bytes) (payload kind (take n bytes)) (drop n bytes) f rest g.1 in
    subst (λ (t : List ℕ). length t ≤ length bytes) k.1 (omega (arith, length-drop n bytes))

payload_extends : (kind n : ℕ) → Extends (payload_at kind n)
payload_extends kind n = record { ok = payload_ok kind n; bad = payload_bad kind n; shorter = payload_shorter kind n }

abbrev behind_kind : ℕ → Reader Frame
behind_kind kind = next (such_that (has_length kind) (number w32)) (payload_at kind)

behind_kind_extends : (kind : ℕ) → Extends (behind_kind kind)
behind_kind_extends kind = next_extends (such_that_extends (has_length kind) (number_extends w32)) (payload_extends kind)

pub frame_extends : Extends frame
unfolding frame
frame_extends = via (λ bytes. refl) (next_extends (such_that_extends (is_from_1_to 4) byte_extends) behind_kind_extends)

pub frame_bad : (bytes more : List ℕ) → IsBad (frame bytes) → IsBad (frame (bytes ++ more))
frame_bad bytes more h = frame_extends.bad bytes more h.0 h.1

-- a frame has bytes
pub frame_shorter : (bytes : List ℕ) (f : Frame) (rest : List ℕ) → frame bytes ≡ Ok (f, rest) → length rest < length bytes
unfolding frame
frame_shorter bytes f rest e =
    let a = bind_ok (such_that (is_from_1_to 4) byte bytes) (λ kind. behind_kind kind.0 kind.1) (f, rest) e in
    let b = bind_ok (byte bytes) (λ y. cond (is_from_1_to 4 y.0) (Ok y) (Err (Bad (length bytes)))) a.0 a.1 in
    let g = rule_ok (is_from_1_to 4 b.0.0) (Bad (length bytes)) b.0 a.0 b.2 in
    let one = byte_shorter bytes b.0.0 b.0.1 b.1 in
    let two = (behind_kind_extends a.0.0).shorter a.0.1 f rest a.2 in
    let same : length b.0.1 ≡ length a.0.1 = ap (λ (p : ℕ × List ℕ). length p.1) g.1 in
    omega arith

-- ---- several frames

pub yields_more : (bytes : List ℕ) (fs : List Frame) (rest more : List ℕ) → Yields bytes fs rest → Yields (bytes ++ more) fs (rest ++ more)
yields_more bytes [] rest more h = ap (λ t. t ++ more) h
yields_more bytes (f ∷ fs) rest more h = (h.0 ++ more, frame_extends.ok bytes f h.0 more h.1, yields_more h.0 fs rest more h.2)

pub yields_one : (bytes : List ℕ) (fs : List Frame) (rest : List ℕ) (f : Frame) (behind : List ℕ) → Yields bytes fs rest → frame rest ≡ Ok (f, behind) → Yields bytes (fs ++ f ∷ []) behind
yields_one bytes [] rest f behind h e = (behind, ap frame h ∙ e, refl)
yields_one bytes (g ∷ fs) rest f behind h e = (h.0, h.1, yields_one h.0 fs rest f behind h.2 e)

pub nothing_ended : HasEnded false []
unfolding frame
nothing_ended = refl

pub ended_sound : (failed : Bool) (bytes : List ℕ) → HasEnded failed bytes → failed ≡ true → IsBad (frame bytes)
ended_sound failed bytes h e = subst (λ b. HasEnded b bytes) e h

-- ---- one way to split

not_ended : (bad : Bool) (bytes : List ℕ) (x : Frame × List ℕ) → HasEnded bad bytes → frame bytes ≡ Ok x → ⊥
not_ended true bytes x h e = ok_not_err x (Bad h.0) (sym e ∙ h.1)
not_ended false bytes x h e = ok_not_err x Short (sym e ∙ h)

bad_not_short : (left : ℕ) → fault_of (Frame × List ℕ) (Bad left) ≡ fault_of (Frame × List ℕ) Short → ⊥
bad_not_short left e = absurd cc

same_end : (bad worse : Bool) (bytes : List ℕ) → HasEnded bad bytes → HasEnded worse bytes → bad ≡ worse
same_end true true bytes h k = refl
same_end true false bytes h k = absurd (bad_not_short h.0 (sym h.1 ∙ k))
same_end false true bytes h k = absurd (bad_not_short k.0 (sym k.1 ∙ h))
same_end false false bytes h k = refl

one_split : (bytes : List ℕ) (fs gs : List Frame) (rest last : List ℕ) (bad worse : Bool) → Yields bytes fs rest → HasEnded bad rest →
    Yields bytes gs last → HasEnded worse last → (fs ≡ gs) × (bad ≡ worse)
one_split bytes [] [] rest last bad worse h p k q = (refl, same_end bad worse bytes (subst (HasEnded bad) (sym h) p) (subst (HasEnded worse) (sym k) q))
one_split bytes [] (g ∷ gs) rest last bad worse h p k q = absurd (not_ended bad bytes (g, k.0) (subst (HasEnded bad) (sym h) p) k.1)
one_split bytes (f ∷ fs) [] rest last bad worse h p k q = absurd (not_ended worse bytes (f, h.0) (subst (HasEnded worse) (sym k) q) h.1)
one_split bytes (f ∷ fs) (g ∷ gs) rest last bad worse h p k q =
    let same = ok_is (f, h.0) (g, k.0) (sym h.1 ∙ k.1) in
    let others = one_split h.0 fs gs rest last bad worse h.2 p (subst (λ (t : List ℕ). Yields t gs last) (sym (ap (λ (x : Frame × List ℕ). x.1) same)) k.2) q in
    (ap (λ (x : Frame × List ℕ). x.0 ∷ fs) same ∙ ap (λ (xs : List Frame). g ∷ xs) others.0, others.1)

pub split_once : (bytes : List ℕ) (fs gs : List Frame) (bad worse : Bool) → Splits bytes fs bad → Splits bytes gs worse → (fs ≡ gs) × (bad ≡ worse)
split_once bytes fs gs bad worse h k = one_split bytes fs gs h.rest k.rest bad worse h.yields h.ended k.yields k.ended
