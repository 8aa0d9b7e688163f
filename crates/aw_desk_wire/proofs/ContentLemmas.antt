-- What a wire tells of its sessions.
use Rattle.std.proofs.Common.{◌≡◌, ℕ, List, [], ◌∷◌, ◌++◌, length, take, drop, true, Option, None, Some, refl, sym, ap, ◌∙◌, append-nil}
use Rattle.std.specs.Prelude.{is_some}
use Rattle.std.proofs.lemmas.List.{take-append-drop}
use Rattle.std.proofs.Math.Seq.{take-length}
use Rattle.aw_out.specs.Edge.{given}
use Rattle.aw_out.specs.Reads.{answer_of}
use Rattle.aw_out.specs.Wires.{Session, with_last, after_read, after_write, after_fault, ReadsInSession, WritesInSession}
use Rattle.aw_out.specs.declared.edge.Got.{Got}
use Rattle.aw_out.specs.declared.edge.Got.TheVariants.{Read, End, Failed}
use Rattle.aw_out.specs.declared.edge.Put.TheVariants as put
use Rattle.aw_out.proofs.WireLemmas.{with_last-append, last_left-append}
use Rattle.aw_desk_wire.specs.Calls.{Calls, has_read, left_in, content_of, changed}

-- the last of some sessions is changed
changed-last : (f : Session → Session) (over : List Session) (c d : Session) → d ≡ f c → over ++ d ∷ [] ≡ with_last f (over ++ c ∷ [])
changed-last f over c d e = ap (λ (s : Session). over ++ s ∷ []) e ∙ sym (with_last-append f over c)

-- at the end nothing is left
end-left : (left : List ℕ) (most : ℕ) → End ≡ answer_of left most → left ≡ []
end-left [] most e = refl
end-left (x ∷ xs) most e = absurd (cc e)

-- a read of what is left does not fail
pub never-fails : (left : List ℕ) (most : ℕ) → Failed ≡ answer_of left most → ⊥
never-fails [] most e = absurd (cc e)
never-fails (x ∷ xs) most e = absurd (cc e)

-- nothing was read in a session
read-none : (s : Session) → after_read [] s.left s ≡ s
read-none s = ap (λ (bytes : List ℕ). record s { read = bytes }) (append-nil s.read)

-- a read
pub reads : (cs : Calls) (answer : Got) (most : ℕ) (buf : List ℕ) → is_some cs.last ≡ true → answer ≡ answer_of (left_in cs.last) most → given answer buf ≡ given answer (left_in cs.last) →
    ReadsInSession answer buf (content_of cs) (content_of (changed (has_read answer) cs))
reads cs answer most buf some = there cs.over cs.last cs.is_open answer some
  where
    there : (over : List Session) (last : Option Session) (is_open : _) (answer : Got) → is_some last ≡ true → answer ≡ answer_of (left_in last) most → given answer buf ≡ given answer (left_in last) →
        ReadsInSession answer buf (content_of (record { over = over; last = last; is_open = is_open }))
        (content_of (changed (has_read answer) (record { over = over; last = last; is_open = is_open })))
    there over None is_open answer some e same = absurd (cc some)
    there over (Some c) is_open (Read n) some e same = (
      drop n c.left,
      last_left-append over c ∙ sym (take-append-drop n c.left) ∙ ap (λ (bytes : List ℕ). bytes ++ drop n c.left) (sym same),
      changed-last (after_read (take n buf) (drop n c.left)) over c (has_read (Read n) c) (ap (λ (bytes : List ℕ). after_read bytes (drop n c.left) c) (sym same)),
      refl,
    )
    there over (Some c) is_open End some e same =
        (last_left-append over c ∙ end-left c.left most e, ap (λ (s : Session). content_of (record { over = over; last = Some s; is_open = is_open })) (read-none c))
    there over (Some c) is_open Failed some e same = absurd (never-fails c.left most e)

-- a write
pub writes : (cs : Calls) (bytes replies : List ℕ) → is_some cs.last ≡ true → WritesInSession (put.Took (length bytes)) bytes (content_of cs) (content_of (changed (after_write bytes replies) cs))
writes cs bytes replies some = there cs.over cs.last cs.is_open some
  where
    there : (over : List Session) (last : Option Session) (is_open : _) → is_some last ≡ true →
        WritesInSession (put.Took (length bytes)) bytes (content_of (record { over = over; last = last; is_open = is_open }))
        (content_of (changed (after_write bytes replies) (record { over = over; last = last; is_open = is_open })))
    there over None is_open some = absurd (cc some)
    there over (Some c) is_open some = (
      replies,
      changed-last (after_write (take (length bytes) bytes) replies) over c (after_write bytes replies c) (ap (λ (b : List ℕ). after_write b replies c) (sym (take-length bytes))),
      refl,
    )

-- a write that failed
pub fails : (cs : Calls) (bytes : List ℕ) → is_some cs.last ≡ true → WritesInSession put.Failed bytes (content_of cs) (content_of (changed after_fault cs))
fails cs bytes some = there cs.over cs.last cs.is_open some
  where
    there : (over : List Session) (last : Option Session) (is_open : _) → is_some last ≡ true →
        WritesInSession put.Failed bytes (content_of (record { over = over; last = last; is_open = is_open }))
        (content_of (changed after_fault (record { over = over; last = last; is_open = is_open })))
    there over None is_open some = absurd (cc some)
    there over (Some c) is_open some =
        let same = changed-last after_fault over c (after_fault c) refl in
        ap (λ (xs : List Session). record { passed = xs; coming = 0 }) same
