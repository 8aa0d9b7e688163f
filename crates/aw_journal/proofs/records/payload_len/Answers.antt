use Rattle.std.specs.Prelude.{◌≡◌, ℕ, ◌≤◌, length}
use Rattle.std.proofs.Common.{subst, arith}
use Rattle.aw_journal.specs.Fronts.{IsFront}
use Rattle.aw_journal.proofs.Fronts.{front_at, front_long, front_none}
use Rattle.aw_journal.proofs.records.payload_len.Goals as goal

pub returns-then-n-clause-none : goal.returns-then-n-clause-none
returns-then-n-clause-none c _ file is_file size front_is =
    let long : 9 ≤ length c.args.front.now = omega arith in
    front_long file c.args.front.now c.args.gate front_is long c.number_in-n.result c.number_in-n.ensures.value is_file (omega (arith, c.if-n.true))

pub returns-then-n-end-clause-none : goal.returns-then-n-end-clause-none
returns-then-n-end-clause-none c _ file is_file size front_is =
    let long : 9 ≤ length c.args.front.now = omega arith in
    front_none file c.args.front.now c.args.gate front_is long c.number_in-n.result c.number_in-n.ensures.value (omega (arith, c.if-n-end.true, size, c.requires))

pub returns-clause-some : goal.returns-clause-some
returns-clause-some c n is file front_is =
    let same : c.number_in-n.result ≡ n = cc in
    let long : 9 ≤ length c.args.front.now = omega arith in
    subst (λ (k : ℕ). IsFront file c.args.gate k) same
    (front_at file c.args.front.now c.args.gate front_is long c.number_in-n.result c.number_in-n.ensures.value c.number_in-n.ensures.bytes c.if-front-ne1.false)
