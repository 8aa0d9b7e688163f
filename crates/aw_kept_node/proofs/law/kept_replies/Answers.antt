use Rattle.aw_kept_node.proofs.Safety.{first-safe, bytes-safe, stay-safe}
use Rattle.aw_kept_node.proofs.law.kept_replies.Goals as goal

pub returns-clause-first : goal.returns-clause-first
returns-clause-first g c = first-safe g.D.Disk

pub returns-clause-bytes : goal.returns-clause-bytes
returns-clause-bytes g c = bytes-safe g.D.Disk

pub returns-clause-stay : goal.returns-clause-stay
returns-clause-stay g c = stay-safe g.D.Disk g.met.D.Disk.reads_an_outcome g.met.D.Disk.counts_now
