-- The course of a session from its begin.
use Rattle.std.proofs.Common.{◌≡◌, ℕ, ◌+◌, ◌≤◌, List, [], length, Bool, false, Option, refl, subst, arith}
use Rattle.aw_out.specs.Wires.{Content}
use Rattle.aw_msg.specs.Frames.{Frame}
use Rattle.aw_msg.specs.Streams.{Stream}
use Rattle.aw_msg.proofs.Extensions.{nothing_ended}
use Rattle.aw_session.specs.Course.{IsGoing, GoesOn}
use Rattle.aw_session.specs.declared.log.How.{How}
use Rattle.aw_session.proofs.Stretches.{yields-count}

-- nothing has come yet
pub going-none : {S W : Type 0} (answers : S → Frame → List ℕ → S → Type 0) (talks : W → W → List ℕ → List ℕ → Bool → Type 0) (s : S) (u : W) →
    talks u u [] [] false → IsGoing answers talks s s u u (record { bytes = []; failed = false }) 0 0
going-none {S} {W} answers talks s u h = record {
  read = [];
  frames = [];
  replies = [];
  answered = refl;
  yields = refl;
  short = nothing_ended;
  sound = refl;
  counted = refl;
  sized = refl;
  within = omega arith;
  talked = h;
}

-- there are no more frames than bytes
pub going-room : {S W : Type 0} (answers : S → Frame → List ℕ → S → Type 0) (talks : W → W → List ℕ → List ℕ → Bool → Type 0) (s t : S) (u v : W)
    (kept : Stream) (total count : ℕ) → IsGoing answers talks s t u v kept total count → count + length kept.bytes ≤ total
going-room {S} {W} answers talks s t u v kept total count going =
    let few = yields-count going.read going.frames kept.bytes going.yields in omega (arith, few, going.counted, going.sized)

-- whether it goes on, where that is known
pub goes-on-at : {S W : Type 0} (answers : S → Frame → List ℕ → S → Type 0) (talks : W → W → List ℕ → List ℕ → Bool → Type 0)
    (content : W → Option Content) (s t : S) (u v : W) (kept : Stream) (total count : ℕ) (o p : Option How) → o ≡ p →
    GoesOn answers talks content s t u v kept total count o → GoesOn answers talks content s t u v kept total count p
goes-on-at {S} {W} answers talks content s t u v kept total count o p e h = subst (λ (x : Option How). GoesOn answers talks content s t u v kept total count x) e h
