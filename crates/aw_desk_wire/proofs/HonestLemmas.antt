-- What sessions of a wire were, one call after the other.
use Rattle.std.proofs.Common.{◌≡◌, ℕ, List, [], ◌∷◌, ◌++◌, true, false, Option, None, Some, refl, sym, ap, subst, ◌∙◌, append_assoc, append-nil}
use Rattle.std.specs.Prelude.{is_some, option_to_list}
use Rattle.aw_msg.specs.Frames.{Frame}
use Rattle.aw_msg.specs.Pieces.{HasEnded}
use Rattle.aw_msg.specs.Streams.{Stream}
use Rattle.aw_msg.proofs.Extensions.{yields_more, nothing_ended}
use Rattle.aw_msg.proofs.PieceLemmas.{fed_sound}
use Rattle.aw_out.specs.Wires.{Session, after_write}
use Rattle.aw_session.specs.Frames.{joined}
use Rattle.aw_session.proofs.Stretches.{joined-append, yields-then}
use Rattle.aw_desk_wire.specs.Asking.{IsAnswered}
use Rattle.aw_desk_wire.specs.Calls.{Calls, role_in, opened, changed}
use Rattle.aw_desk_wire.specs.Honest.{IsHonest, AreHonest, LastIs, WasHonest, IsWritten}
use Rattle.aw_desk_wire.proofs.AskLemmas.{asked-none, asked-then}

module _
    (D : Type 0)
    (answers : D → Frame → List ℕ → D → Type 0)
    (ds : List D)
  where
    -- one session more
    one-more : (from ms es : List D) (xs : List Session) (x : Session) → AreHonest answers from ms xs → IsHonest answers ms es x → AreHonest answers from es (xs ++ x ∷ [])
    one-more from ms es [] x h k = (es, subst (λ (zs : List D). IsHonest answers zs es x) h k, refl)
    one-more from ms es (y ∷ xs) x h k = (h.0, h.1, one-more h.0 ms es xs x h.2 k)

    -- the last session is over
    pub ended-last : (ms es : List D) (kept : Stream) (over : List Session) (last : Option Session) → AreHonest answers ds ms over → LastIs answers ms es kept last →
        AreHonest answers ds es (over ++ option_to_list last)
    ended-last ms es kept over None h k = subst (λ (zs : List Session). AreHonest answers ds es zs) (sym (append-nil over)) (subst (λ (zs : List D). AreHonest answers ds zs over) (sym k) h)
    ended-last ms es kept over (Some c) h k =
        one-more ds ms es over c h
        (record {
          frames = k.frames;
          replies = k.replies;
          bad = kept.failed;
          later = c.left;
          splits = record {
            rest = kept.bytes;
            yields = k.yields;
            ended = k.ended;
          };
          asked = k.asked;
          read = k.read;
        })

    -- a session is open, with a new reader
    pub honest-opened : (role : ℕ) (es : List D) (kept new : Stream) (cs : Calls) → new ≡ record { bytes = []; failed = false } →
        WasHonest answers ds es kept cs → WasHonest answers ds es new (opened role cs)
    honest-opened role es kept new cs e h = record {
      between = es;
      over = ended-last h.between es kept cs.over cs.last h.over h.last;
      last = record {
        frames = [];
        replies = [];
        yields = sym (ap (λ (s : Stream). s.bytes) e);
        ended = subst (λ (s : Stream). HasEnded s.failed s.bytes) (sym e) nothing_ended;
        asked = asked-none D answers role es;
        read = refl;
      };
    }

    -- bytes were written, and all whole frames were asked
    pub honest-written : (es us : List D) (kept to : Stream) (bytes : List ℕ) (cs new : Calls) → is_some cs.last ≡ true → WasHonest answers ds es kept
        cs → IsWritten answers es us kept to cs new bytes → WasHonest answers ds us to new
    honest-written es us kept to bytes cs new some h w = subst (λ (x : Calls). WasHonest answers ds us to x) (sym w.told)
        (record { between = h.between; over = h.over; last = there cs.last some h.last w.answered })
      where
        there : (last : Option Session) → is_some last ≡ true → LastIs answers h.between es kept last → IsAnswered answers (role_in last) es us
            (record kept { bytes = kept.bytes ++ bytes }) to w.replies →
            LastIs answers h.between us to (changed (after_write bytes w.replies) (record { over = []; last = last; is_open = true })).last
        there None some k b = absurd (cc some)
        there (Some c) some k b =
            let s = b.stretch in
            record {
              frames = k.frames ++ s.frames;
              replies = k.replies ++ s.replies;
              yields = yields-then (c.written ++ bytes) k.frames s.frames (kept.bytes ++ bytes) to.bytes (yields_more c.written k.frames kept.bytes bytes k.yields) s.yields;
              ended = b.ended (fed_sound kept (record kept { bytes = kept.bytes ++ bytes }) bytes k.ended refl);
              asked = asked-then D answers c.role h.between es us k.frames s.frames k.replies s.replies k.asked s.asked;
              read = joined-append k.replies s.replies ∙ ap (λ (t : List ℕ). t ++ joined s.replies) k.read
                  ∙ ap (λ (t : List ℕ). (c.read ++ c.left) ++ t) (sym s.text_is) ∙ append_assoc c.read c.left w.replies;
            }
