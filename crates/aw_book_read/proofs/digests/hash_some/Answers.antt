use Rattle.std.proofs.Common.{◌++◌, take, subst}
use Rattle.sha2.specs.Hashers.{Holds256}
use Rattle.aw_book_read.proofs.Digesting.{taken_more}
use Rattle.aw_book_read.proofs.digests.hash_some.Goals as goal

pub returns-in-Read-clause-hashed : goal.returns-in-Read-clause-hashed
returns-in-Read-clause-hashed g c b told held =
    let at = c.args.at in
    let n = c.in-Read.n in
    let read = c.in-Read.ensures.bytes b told in
    let step : Holds256 c.update.new.self (take at b ++ take n c.read_at.new.buf) = c.update.ensures (take at b) held in
    subst (λ l. Holds256 c.update.new.self l) (taken_more b c.read_at.new.buf at n read.1) step
