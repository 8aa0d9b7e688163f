use Rattle.std.proofs.Common.{◌++◌, refl}
use Rattle.aw_law_sites.specs.Worlds.{site_at, world_after}
use Rattle.aw_law_worlds.proofs.PartValues.{rows_of_values}
use Rattle.aw_book_join.specs.Tasks.{row_lines, standing_lines}
use Rattle.aw_book_join.proofs.law.task_laws.Goals as goal

pub returns : goal.returns
returns c = λ words g ok loads es may a v.
    let s = site_at (world_after g loads es) a in
    let (rows, read) = rows_of_values g (λ h. s.equations) (λ h r. (c.merge_laws.ensures.values words g ok loads es may a).values r) s.held in
    (row_lines words v rows ++ standing_lines words g v s, (rows, read, refl))
