use Rattle.std.proofs.Common.{take}
use Rattle.aw_book_read.proofs.digests.digest_front.Goals as goal

pub returns-clause-digest : goal.returns-clause-digest
returns-clause-digest g c b told = c.finalize.ensures (take c.args.count b) (c.in_ok-hash_front.ensures.hashed b told c.new-hasher.ensures)
