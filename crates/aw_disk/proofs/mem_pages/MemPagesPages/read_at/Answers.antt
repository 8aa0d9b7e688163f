use Rattle.std.specs.Prelude.{true}
use Rattle.std.proofs.Common.{◌≡◌, ◌∙◌, ℕ, List, length, ap, subst, arith}
use Rattle.aw_out.specs.declared.edge.Got.TheVariants.{Read}
use Rattle.aw_disk.specs.Disk.{ReadsAt}
use Rattle.aw_disk.specs.PagesLaws.{told_is}
use Rattle.aw_disk.proofs.mem_pages.MemPagesPages.read_at.Goals as goal

pub returns-then-at-bytes-clause-bytes : goal.returns-then-at-bytes-clause-bytes
returns-then-at-bytes-clause-bytes c b is =
    let told = told_is true c.args.self.now.bytes b is in
    omega (arith, ap length told.1, ap length c.as_slice-bytes.ensures, c.if-at-bytes.true)

pub returns-clause-bytes : goal.returns-clause-bytes
returns-clause-bytes c b is =
    let told = told_is true c.args.self.now.bytes b is in
    let same : c.as_slice-bytes.result.now ≡ b = c.as_slice-bytes.ensures ∙ told.1 in
    subst (λ (l : List ℕ). ReadsAt c.args.at l (Read c.copy_from.result) c.copy_from.new.buf) same (c.copy_from.ensures.count.2, c.copy_from.ensures.bytes)
