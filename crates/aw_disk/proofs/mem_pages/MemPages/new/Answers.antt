use Rattle.std.specs.Prelude.{true}
use Rattle.std.proofs.Common.{refl, subst}
use Rattle.aw_disk.specs.Pages.{IsFile}
use Rattle.aw_disk.specs.PagesLaws.{told_file}
use Rattle.aw_disk.proofs.mem_pages.MemPages.new.Goals as goal

pub returns-clause-tells : goal.returns-clause-tells
returns-clause-tells c = told_file true c.args.bytes refl (subst IsFile c.as_slice.ensures c.told.ensures)
