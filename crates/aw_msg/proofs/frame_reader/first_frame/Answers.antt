use Rattle.std.proofs.Common.{ℕ, List, drop, Ok, sym, ap, ◌∙◌, arith}
use Rattle.aw_msg.specs.FrameView.{frame_of}
use Rattle.aw_msg.proofs.FrameLaws.{frame_law}
use Rattle.aw_msg.proofs.StreamLemmas.{rest_is}
use Rattle.aw_msg.proofs.frame_reader.first_frame.Goals as goal

pub returns-clause-frame : goal.returns-clause-frame
returns-clause-frame c =
    let bytes = c.args.bytes.now in
    let found = frame_of c.in_ok-found.found in
    let rest = c.in_ok-found.rest.now in
    c.in_ok-found.ensures
    ∙ ap (λ (t : List ℕ). Ok (found, t)) (sym (ap (λ n. drop n bytes) c.saturating_sub.ensures ∙ rest_is bytes found rest (λ i. omega (arith, c.type_inv.bytes i)) c.in_ok-found.ensures))

pub returns-clause-range : goal.returns-clause-range
returns-clause-range c =
    (frame_law.taken c.args.bytes.now (frame_of c.in_ok-found.found) c.in_ok-found.rest.now (λ i. omega (arith, c.type_inv.bytes i)) c.in_ok-found.ensures).2
