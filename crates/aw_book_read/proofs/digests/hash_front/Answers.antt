use Rattle.std.proofs.Common.{◌≡◌, ◌≤◌, ◌+◌, length, subst, ◌∙◌, arith}
use Rattle.sha2.specs.Hashers.{Holds256}
use Rattle.aw_journal.proofs.Reading.{taken_all as taken_past}
use Rattle.aw_book_read.proofs.digests.hash_front.Goals as goal

pub returns-then-n-eq0-clause-hashed : goal.returns-then-n-eq0-clause-hashed
returns-then-n-eq0-clause-hashed g c b told none =
    let at = c.pieces.at in
    let n = c.in_ok-n.n in
    let bytes = c.pieces.invariant.only.same_bytes ∙ told in
    let more = c.in_ok-n.ensures.hashed b bytes (c.pieces.invariant.hashed b told none) in
    let zero : n ≡ 0 = omega (arith, c.if-n-eq0.true) in
    let short : length b ≤ at = c.in_ok-n.ensures.ended b bytes zero in
    subst (λ l. Holds256 c.hash_some.new.hasher l) (taken_past b (at + n) c.args.count (omega (arith, short)) (omega (arith, zero, c.pieces.invariant.most))) more
