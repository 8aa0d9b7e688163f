-- Reads of a wire in memory.
use Rattle.std.proofs.Common.{◌≡◌, ℕ, List, [], ◌∷◌, ◌++◌, drop, refl, ap, sym, ◌∙◌, append-nil}
use Rattle.std.proofs.lemmas.List.{take-append-drop}
use Rattle.aw_out.specs.Edge.{given}
use Rattle.aw_out.specs.Reads.{answer_of, left_after}
use Rattle.aw_out.specs.Wires.{Session, with_last, last_left, after_read, ReadsInSession}
use Rattle.aw_out.specs.declared.edge.Got.{Got}
use Rattle.aw_out.specs.declared.edge.Got.TheVariants.{Read, End, Failed}
use Rattle.aw_net.specs.MemWires.{Sessions, Wired, content_of, left_in, with_read, moved, after_reading}

-- nothing was read in a session
read-none : (s : Session) → after_read [] s.left s ≡ s
read-none s = ap (λ (bytes : List ℕ). record s { read = bytes }) (append-nil s.read)

-- nothing was read in the last one
read-none-last : (xs : List Session) → with_last (after_read [] (last_left xs)) xs ≡ xs
read-none-last [] = refl
read-none-last (s ∷ []) = ap (λ (t : Session). t ∷ []) (read-none s)
read-none-last (s ∷ t ∷ ts) = ap (λ (us : List Session). s ∷ us) (read-none-last (t ∷ ts))

-- nothing was read in all of them
read-nothing : (s : Sessions) → with_read [] (left_in s) s ≡ s
read-nothing s = ap (λ (xs : List Session). record s { passed = xs }) (read-none-last s.passed)

-- at the end nothing is left
end-left : (left : List ℕ) (most : ℕ) → End ≡ answer_of left most → left ≡ []
end-left [] most e = refl
end-left (x ∷ xs) most e = absurd (cc e)

-- a read of bytes in memory does not fail
never-fails : (left : List ℕ) (most : ℕ) → Failed ≡ answer_of left most → ⊥
never-fails [] most e = absurd (cc e)
never-fails (x ∷ xs) most e = absurd (cc e)

-- the wire after a read that was not told to fail
pub reads-after : (w : Wired) (answer : Got) (most : ℕ) → answer ≡ answer_of (left_in w.sessions) most →
    record { sessions = with_read (given answer (left_in w.sessions)) (left_after answer (left_in w.sessions)) w.sessions; script = moved w.script } ≡ after_reading answer w
reads-after w (Read n) most e = refl
reads-after w End most e = ap (λ (s : Sessions). record { sessions = s; script = moved w.script }) (read-nothing w.sessions)
reads-after w Failed most e = absurd (never-fails (left_in w.sessions) most e)

-- what it tells
pub reads-content : (s : Sessions) (answer : Got) (most : ℕ) (buf : List ℕ) → answer ≡ answer_of (left_in s) most → given answer buf ≡ given answer (left_in s) →
    ReadsInSession answer buf (content_of s) (content_of (with_read (given answer (left_in s)) (left_after answer (left_in s)) s))
reads-content s (Read n) most buf e same =
    let left = left_in s in (
      drop n left,
      sym (take-append-drop n left) ∙ ap (λ (bytes : List ℕ). bytes ++ drop n left) (sym same),
      ap (λ (bytes : List ℕ). with_last (after_read bytes (drop n left)) s.passed) (sym same),
      refl,
    )
reads-content s End most buf e same = (end-left (left_in s) most e, ap content_of (read-nothing s))
reads-content s Failed most buf e same = absurd (never-fails (left_in s) most e)
