use Rattle.std.proofs.Common.{◌≡◌, ◌+◌, ◌∷◌, [], length, ap, ◌∙◌, arith, length-append}
use Rattle.aw_session.proofs.Servings.{serves-at, serving-one}
use Rattle.aw_session.proofs.serving.serve_some.Goals as goal

pub loop-alloc-preserved : goal.loop-alloc-preserved
loop-alloc-preserved g c =
    let next = serves-at _ _ _ _ _ _ _ _ _ _ _ _ c.if-not-branch.false c.in_ok-serve_next.ensures.ok in
    let longer : length c.serve_next.new.log.items ≡ length c.loop-alloc.log.items + 1 = ap length next.1 ∙ length-append c.loop-alloc.log.items (next.0 ∷ []) in
    record {
      ready = c.in_ok-serve_next.ensures.ready;
      most = omega (arith, longer, c.loop-alloc-test.true, c.len.ensures);
      serving = rw next.1 (serving-one _ _ _ _ _ _ _ _ _ _ _ _ _ c.loop-alloc.invariant.serving next.2);
    }
