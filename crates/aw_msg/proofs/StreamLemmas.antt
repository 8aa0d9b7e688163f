-- The bytes behind a frame, and frames in more bytes.
use Rattle.std.proofs.Common.{◌≡◌, ℕ, ◌-◌, ◌+◌, List, length, drop, Ok, ap, ◌∙◌, arith}
use Rattle.std.proofs.lemmas.List.{drop_at, length-append}
use Rattle.aw_codec.specs.Bytes.{AreBytes}
use Rattle.aw_msg.specs.Frames.{Frame, spelled_frame, frame}
use Rattle.aw_msg.proofs.FrameLaws.{frame_law}

-- what is behind the prefix
pub rest_is : (bytes : List ℕ) (f : Frame) (rest : List ℕ) → AreBytes bytes → frame bytes ≡ Ok (f, rest) → drop (length bytes - length rest) bytes ≡ rest
rest_is bytes f rest fits e =
    let t = frame_law.taken bytes f rest fits e in
    let text = spelled_frame f in
    let whole : length bytes ≡ length text + length rest = ap length t.0.parts ∙ length-append text rest in
    let len : length text ≡ length bytes - length rest = difference (length bytes) (length text) (length rest) whole in
    ap (drop (length bytes - length rest)) t.0.parts ∙ drop_at text rest (length bytes - length rest) len
  where
    difference : (a b c : ℕ) → a ≡ b + c → b ≡ a - c
    difference a b c e = omega arith
