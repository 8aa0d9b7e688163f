-- Sessions in memory as they are shown.
use Rattle.std.proofs.Common.{◌≡◌, ℕ, zero, suc, ◌+◌, ◌≤◌, ◌-◌, List, [], ◌∷◌, ◌++◌, length, take, drop, map, reverse, Bool, true, refl, ap, sym, ◌∙◌}
use Rattle.std.proofs.Common.{arith, length-append, append-nil, Option, None, Some, option_to_list, slice_get, subst}
use Rattle.std.proofs.lemmas.List.{take-append-le, map-append, reverse-reverse, length-take-le, drop-append-le, drop-drop}
use Rattle.std.proofs.lemmas.Option.{slice_get-map}
use Rattle.std.proofs.Math.Seq.{take-add, take-length}
use Rattle.aw_out.specs.Edge.{FitsBuffer, given}
use Rattle.aw_out.specs.Reads.{left_after}
use Rattle.aw_out.specs.Wires.{Session, Opens, with_last, last_left, after_read, after_write, after_fault}
use Rattle.aw_out.proofs.WireLemmas.{with_last-append, last_left-append}
use Rattle.aw_out.specs.declared.edge.Got.{Got}
use Rattle.aw_out.specs.declared.edge.Got.TheVariants.{Read, End, Failed}
use Rattle.aw_net.specs.MemWires.{Sessions, content_of, next_of, later_of, opened, with_read, with_written, with_fault, left_in}
use Rattle.aw_net.specs.Shown.{session_of, sessions_of, shown, IsWithin, AreWithin, IsLast, IsRoomy, written_in}
use Rattle.aw_net.specs.declared.passed.Passed.{Passed}

-- a session stands within more bytes
pub within-more : (bytes more : List ℕ) (p : Passed) → IsWithin bytes p → IsWithin (bytes ++ more) p
within-more bytes more p w = record { read = w.read; order = w.order; written = omega (arith, length-append bytes more, w.written) }

-- so do several
pub all-within-more : (bytes more : List ℕ) (ps : List Passed) → AreWithin bytes ps → AreWithin (bytes ++ more) ps
all-within-more bytes more [] w = tt
all-within-more bytes more (p ∷ ps) w = (within-more bytes more p w.0, all-within-more bytes more ps w.1)

-- and one more
pub all-within-append : (bytes : List ℕ) (ps : List Passed) (p : Passed) → AreWithin bytes ps → IsWithin bytes p → AreWithin bytes (ps ++ p ∷ [])
all-within-append bytes [] p w one = (one, tt)
all-within-append bytes (q ∷ ps) p w one = (w.0, all-within-append bytes ps p w.1 one)

-- a session shows the same where more was written
pub shown-more : (bytes more : List ℕ) (p : Passed) → IsWithin bytes p → session_of (bytes ++ more) p ≡ session_of bytes p
shown-more bytes more p w = rw (take-append-le p.to bytes more w.written) refl

-- so do several
pub all-shown-more : (bytes more : List ℕ) (ps : List Passed) → AreWithin bytes ps → map (session_of (bytes ++ more)) ps ≡ map (session_of bytes) ps
all-shown-more bytes more [] w = refl
all-shown-more bytes more (p ∷ ps) w = let one = shown-more bytes more p w.0 in let others = all-shown-more bytes more ps w.1 in cc

-- the open session is changed
pub changed-last : (f : Session → Session) (bytes : List ℕ) (ps : List Passed) (p q : Passed) → f (session_of bytes p) ≡ session_of bytes q →
    with_last f (map (session_of bytes) (ps ++ p ∷ [])) ≡ map (session_of bytes) (ps ++ q ∷ [])
changed-last f bytes ps p q e = rw (map-append (session_of bytes) ps (p ∷ []), map-append (session_of bytes) ps (q ∷ []))
    (with_last-append f (map (session_of bytes) ps) (session_of bytes p) ∙ ap (λ (s : Session). map (session_of bytes) ps ++ s ∷ []) e)

-- and more was written in it
pub written-last : (f : Session → Session) (bytes more : List ℕ) (ps : List Passed) (p q : Passed) → AreWithin bytes ps → f (session_of bytes p) ≡ session_of (bytes ++ more) q →
    with_last f (map (session_of bytes) (ps ++ p ∷ [])) ≡ map (session_of (bytes ++ more)) (ps ++ q ∷ [])
written-last f bytes more ps p q w e =
    rw (map-append (session_of bytes) ps (p ∷ []), map-append (session_of (bytes ++ more)) ps (q ∷ []), all-shown-more bytes more ps w)
    (with_last-append f (map (session_of bytes) ps) (session_of bytes p) ∙ ap (λ (s : Session). map (session_of bytes) ps ++ s ∷ []) e)

-- ---- what the whole shows

-- a session is opened
pub opens-one : (role : ℕ) (dialed : Bool) (s : Sessions) → Opens role dialed (content_of s) (content_of (opened role dialed s))
opens-one role dialed s = (next_of s.coming, refl)

-- and one less is to come
pub one-less : (xs : List (List ℕ)) → (xs ≡ [] → ⊥) → length xs ≡ length (later_of xs) + 1
one-less [] some = absurd (some refl)
one-less (x ∷ xs) some = omega arith

pub no-more : (xs : List (List ℕ)) → length (later_of xs) ≤ length xs
no-more [] = omega arith
no-more (x ∷ xs) = omega arith

-- no session is to come in either order
pub reverse-nil : {A : Type 0} (xs : List A) → reverse xs ≡ [] → xs ≡ []
reverse-nil xs e = sym (reverse-reverse xs) ∙ ap reverse e

-- the open session ended
pub roomy-close : (ended : List Passed) (cur : Option Passed) (p : Passed) (bytes : List ℕ) (a a' b room most : ℕ) → cur ≡ Some p → a ≤ a' →
    IsRoomy ended cur bytes a b room most → IsRoomy (ended ++ p ∷ []) None bytes a' b room most
roomy-close ended None p bytes a a' b room most e up r = absurd (cc e)
roomy-close ended (Some q) p bytes a a' b room most e up r =
    let same : q ≡ p = cc e in
    subst (λ (x : Passed). IsRoomy (ended ++ x ∷ []) None bytes a' b room most) same
    record {
      within = all-within-append bytes ended q r.within r.last.0;
      last = tt;
      sessions = omega (arith, length-append ended (q ∷ []), r.sessions, up);
      writes = r.writes;
    }

-- a read or a write failed in it
pub shows-fault : (coming : List (List ℕ)) (ended : List Passed) (cur : Option Passed) (p : Passed) (bytes : List ℕ) (room most : ℕ) → cur ≡ Some p →
    shown coming (Some (record p { failed = true })) ended bytes room most ≡ with_fault (shown coming cur ended bytes room most)
shows-fault coming ended None p bytes room most e = absurd (cc e)
shows-fault coming ended (Some q) p bytes room most e =
    let same : q ≡ p = cc e in let changed = changed-last after_fault bytes ended p (record p { failed = true }) refl in cc

-- the session after some of what was left was read
pub read-session : (bytes : List ℕ) (p : Passed) (n : ℕ) → after_read (take n (drop p.at p.bytes)) (drop n (drop p.at p.bytes)) (session_of bytes p) ≡ session_of bytes (record p { at = p.at + n })
read-session bytes p n = let both = take-add p.at n p.bytes in let rest = drop-drop n p.at p.bytes in cc

-- what is left in the open one
pub left-last : (bytes : List ℕ) (ended : List Passed) (p : Passed) → last_left (sessions_of bytes ended (Some p)) ≡ drop p.at p.bytes
left-last bytes ended p = ap last_left (map-append (session_of bytes) ended (p ∷ [])) ∙ last_left-append (map (session_of bytes) ended) (session_of bytes p)

pub left-open : (coming : List (List ℕ)) (ended : List Passed) (cur : Option Passed) (p : Passed) (bytes : List ℕ) (room most : ℕ) → cur ≡ Some p →
    left_in (shown coming cur ended bytes room most) ≡ drop p.at p.bytes
left-open coming ended None p bytes room most e = absurd (cc e)
left-open coming ended (Some r) p bytes room most e = let same : r ≡ p = cc e in left-last bytes ended r ∙ ap (λ (x : Passed). drop x.at x.bytes) same

-- some of it was read
shows-some : (coming : List (List ℕ)) (ended : List Passed) (p : Passed) (bytes : List ℕ) (room most n : ℕ) →
    shown coming (Some (record p { at = p.at + n })) ended bytes room most
    ≡ with_read (take n (drop p.at p.bytes)) (drop n (drop p.at p.bytes)) (shown coming (Some p) ended bytes room most)
shows-some coming ended p bytes room most n =
    let changed = changed-last (after_read (take n (drop p.at p.bytes)) (drop n (drop p.at p.bytes))) bytes ended p (record p { at = p.at + n }) (read-session bytes p n) in cc

-- some of it was read, or nothing
shows-given : (coming : List (List ℕ)) (ended : List Passed) (p q : Passed) (bytes : List ℕ) (room most : ℕ) (answer : Got) →
    FitsBuffer answer (drop p.at p.bytes) → q ≡ record p { at = p.at + length (given answer (drop p.at p.bytes)) } →
    shown coming (Some q) ended bytes room most ≡ with_read (given answer (drop p.at p.bytes)) (left_after answer (drop p.at p.bytes)) (shown coming (Some p) ended bytes room most)
shows-given coming ended p q bytes room most (Read n) f is =
    let count : length (take n (drop p.at p.bytes)) ≡ n = length-take-le n (drop p.at p.bytes) f.1 in
    let some = shows-some coming ended p bytes room most n in cc
shows-given coming ended p q bytes room most End f is = let some = shows-some coming ended p bytes room most 0 in cc
shows-given coming ended p q bytes room most Failed f is = let some = shows-some coming ended p bytes room most 0 in cc

-- so it is shown, whatever is known of the open one
pub shows-read : (coming : List (List ℕ)) (ended : List Passed) (cur : Option Passed) (p q : Passed) (bytes : List ℕ) (room most : ℕ) (answer : Got) → cur ≡ Some p →
    FitsBuffer answer (drop p.at p.bytes) → q ≡ record p { at = p.at + length (given answer (drop p.at p.bytes)) } →
    shown coming (Some q) ended bytes room most
    ≡ with_read (given answer (left_in (shown coming cur ended bytes room most))) (left_after answer (left_in (shown coming cur ended bytes room most))) (shown coming cur ended bytes room most)
shows-read coming ended None p q bytes room most answer e f is = absurd (cc e)
shows-read coming ended (Some r) p q bytes room most answer e f is =
    let same : r ≡ p = cc e in
    subst (λ (c : Passed). shown coming (Some q) ended bytes room most
    ≡ with_read (given answer (left_in (shown coming (Some c) ended bytes room most)))
    (left_after answer (left_in (shown coming (Some c) ended bytes room most))) (shown coming (Some c) ended bytes room most)) (sym same)
    (subst (λ (left : List ℕ). shown coming (Some q) ended bytes room most ≡ with_read (given answer left) (left_after answer left)
    (shown coming (Some p) ended bytes room most)) (sym (left-last bytes ended p))
    (shows-given coming ended p q bytes room most answer f is))

-- the session after more was written
pub write-session : (bytes more : List ℕ) (p : Passed) → IsWithin bytes p → p.to ≡ length bytes →
    after_write more [] (session_of bytes p) ≡ session_of (bytes ++ more) (record p { to = length (bytes ++ more) })
write-session bytes more p w last =
    let all : take p.to bytes ≡ bytes = ap (λ (n : ℕ). take n bytes) last ∙ take-length bytes in
    let more_all : take (length (bytes ++ more)) (bytes ++ more) ≡ bytes ++ more = take-length (bytes ++ more) in
    let from : p.from ≤ length bytes = omega (arith, w.order, last) in
    let behind : drop p.from (bytes ++ more) ≡ drop p.from bytes ++ more = drop-append-le p.from bytes more from in
    let none = append-nil (drop p.at p.bytes) in cc

-- more was written in the open session
pub shows-write : (coming : List (List ℕ)) (ended : List Passed) (cur : Option Passed) (p : Passed) (bytes more : List ℕ) (room most : ℕ) → cur ≡ Some p →
    AreWithin bytes ended → IsLast bytes cur →
    shown coming (Some (record p { to = length (bytes ++ more) })) ended (bytes ++ more) (room - length more) most ≡ with_written more (shown coming cur ended bytes room most)
shows-write coming ended None p bytes more room most e w l = absurd (cc e)
shows-write coming ended (Some q) p bytes more room most e w l =
    let same : q ≡ p = cc e in
    let changed = written-last (after_write more []) bytes more ended q (record q { to = length (bytes ++ more) }) w (write-session bytes more q l.0 l.1) in cc

-- there is still memory then
pub roomy-write : (ended : List Passed) (cur : Option Passed) (p : Passed) (bytes more : List ℕ) (a b b' room most : ℕ) → cur ≡ Some p → length more ≤ room → b ≤ b' →
    IsRoomy ended cur bytes a b room most → IsRoomy ended (Some (record p { to = length (bytes ++ more) })) (bytes ++ more) a b' (room - length more) most
roomy-write ended None p bytes more a b b' room most e fits up r = absurd (cc e)
roomy-write ended (Some q) p bytes more a b b' room most e fits up r =
    let same : q ≡ p = cc e in
    subst (λ (x : Passed). IsRoomy ended (Some (record x { to = length (bytes ++ more) })) (bytes ++ more) a b' (room - length more) most) same
    record {
      within = all-within-more bytes more ended r.within;
      last = (record { read = r.last.0.read; order = omega (arith, length-append bytes more, r.last.0.order, r.last.0.written); written = omega arith }, refl);
      sessions = r.sessions;
      writes = omega (arith, length-append bytes more, r.writes, fits, up);
    }

-- all sessions stand within
pub all-within : (ended : List Passed) (cur : Option Passed) (bytes : List ℕ) → AreWithin bytes ended → IsLast bytes cur → AreWithin bytes (ended ++ option_to_list cur)
all-within [] None bytes w l = tt
all-within [] (Some p) bytes w l = (l.0, tt)
all-within (q ∷ ps) cur bytes w l = (w.0, all-within ps cur bytes w.1 l)

-- so does each of them
pub within-at : (ps : List Passed) (bytes : List ℕ) (n : ℕ) (p : Passed) → AreWithin bytes ps → slice_get ps n ≡ Some p → IsWithin bytes p
within-at [] bytes n p w e = absurd (cc e)
within-at (q ∷ ps) bytes zero p w e = let same : q ≡ p = cc e in subst (λ (x : Passed). IsWithin bytes x) same w.0
within-at (q ∷ ps) bytes (suc n) p w e = within-at ps bytes n p w.1 e

-- what was written in one of them
pub written-at : (ps : List Passed) (bytes : List ℕ) (n : ℕ) (p : Passed) → slice_get ps n ≡ Some p → written_in (map (session_of bytes) ps) n ≡ Some (drop p.from (take p.to bytes))
written-at ps bytes n p e = rw (slice_get-map (session_of bytes) ps n, e) refl
