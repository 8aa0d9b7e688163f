use Rattle.std.proofs.Common.{map, ap, ◌∙◌}
use Rattle.aw_space.specs.Waking.{left_of}
use Rattle.aw_space.proofs.taking.copies_of.Goals as goal

pub returns-clause-told : goal.returns-clause-told
returns-clause-told c = c.in_ok-told.ensures ∙ ap (map left_of) c.as_slice.ensures
