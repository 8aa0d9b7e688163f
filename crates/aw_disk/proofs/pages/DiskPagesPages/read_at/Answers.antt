use Rattle.std.proofs.Common.{ℕ, List, subst}
use Rattle.aw_disk.specs.Disk.{ReadsAt}
use Rattle.aw_disk.specs.PagesLaws.{told_is}
use Rattle.aw_disk.proofs.pages.DiskPagesPages.read_at.Goals as goal

pub returns-clause-bytes : goal.returns-clause-bytes
returns-clause-bytes g c b is =
    let disk = c.args.self.now.disk.now in
    let told = told_is (g.D.Disk.tells disk) (g.D.Disk.seen disk) b is in
    subst (λ (l : List ℕ). ReadsAt c.args.at l c.read_at.result c.read_at.new.buf) told.1 (c.read_at.ensures.bytes told.0)
