-- Taking frames from a stream, piece by piece.
use Rattle.std.proofs.Common.{◌≡◌, ℕ, ◌+◌, ◌<◌, Bool, true, false, List, [], ◌++◌, length, get_or, take, map, Result, Ok, Err, refl, sym, ap, subst, ◌∙◌, if◌then◌else◌}
use Rattle.std.specs.List.{flat_map}
use Rattle.aw_codec.specs.Reading.{Fault, Short, Bad}
use Rattle.aw_codec.proofs.Adding.{one_more}
use Rattle.aw_msg.specs.Frames.{Frame, frame}
use Rattle.aw_msg.specs.FrameView.{frame_of}
use Rattle.aw_msg.specs.declared.frame.Frame as declared
use Rattle.aw_msg.specs.Streams.{Stream, Ready, Wrong, next_in, next_of, left_in, left_of}
use Rattle.aw_msg.specs.Pieces.{Yields, IsBad, HasEnded, IsSound}
use Rattle.aw_msg.proofs.Extensions.{frame_bad, yields_more, nothing_ended, ended_sound}

ready_same : (f g : Frame) → Ready f ≡ Ready g → f ≡ g
ready_same f g e = cc

ready_is : (failed : Bool) (bytes : List ℕ) (read : Result (Frame × List ℕ) Fault) (f : Frame) (t : Stream) → Ready f ≡ (if failed then Wrong else next_in read)
    → t ≡ (if failed then record { bytes = bytes; failed = failed } else left_in (record { bytes = bytes; failed = failed }) read) → (read ≡ Ok (f, t.bytes)) × (t.failed ≡ false)
ready_is true bytes read f t e h = absurd cc
ready_is false bytes (Ok x) f t e h = (
  ap (λ (g : Frame). Ok (g, x.1)) (sym (ready_same f x.0 e)) ∙ ap (λ (rest : List ℕ). Ok (f, rest))
      (sym (ap (λ (s : Stream). s.bytes) h)),
  ap (λ (s : Stream). s.failed) h,
)
ready_is false bytes (Err Short) f t e h = absurd cc
ready_is false bytes (Err (Bad left)) f t e h = absurd cc

-- a frame that is ready stood at the front
pub was_ready : (s : Stream) (f : Frame) (t : Stream) → Ready f ≡ next_of s → t ≡ left_of s → (frame s.bytes ≡ Ok (f, t.bytes)) × (t.failed ≡ false)
was_ready s f t e h = ready_is s.failed s.bytes (frame s.bytes) f t e h

pub started : (s : Stream) (fs : List declared.Frame) → s ≡ record { bytes = []; failed = false } → fs ≡ [] → Yields [] (map frame_of fs) s.bytes × HasEnded s.failed s.bytes
started s fs e f =
    subst (λ gs. Yields [] (map frame_of gs) s.bytes × HasEnded s.failed s.bytes) (sym f)
    (subst (λ (t : Stream). Yields [] [] t.bytes × HasEnded t.failed t.bytes) (sym e) (refl, nothing_ended))

pub fed_sound : (s t : Stream) (more : List ℕ) → HasEnded s.failed s.bytes → t ≡ record s { bytes = s.bytes ++ more } → IsSound t
fed_sound s t more ended e failed =
    subst (λ (u : Stream). IsBad (frame u.bytes)) (sym e) (frame_bad s.bytes more (ended_sound s.failed s.bytes ended (sym (ap (λ (u : Stream). u.failed) e) ∙ failed)))

-- one piece more
pub fed_yields : (pieces : List (List ℕ)) (i : ℕ) (piece more : List ℕ) (fs : List Frame) (s t : Stream) → i < length pieces → piece ≡ get_or pieces i piece → more ≡ piece
    → Yields (flat_map (λ p. p) (take i pieces)) fs s.bytes → t ≡ record s { bytes = s.bytes ++ more } → Yields (flat_map (λ p. p) (take (i + 1) pieces)) fs t.bytes
fed_yields pieces i piece more fs s t lt is same h e =
    let before = flat_map (λ (p : List ℕ). p) (take i pieces) in
    subst (λ (b : List ℕ). Yields b fs t.bytes) (one_more (λ p. p) pieces i piece [] before (before ++ more) lt is refl (ap (λ u. before ++ u) same))
    (subst (λ (u : Stream). Yields (before ++ more) fs u.bytes) (sym e) (yields_more before fs s.bytes more h))
