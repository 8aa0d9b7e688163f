use Rattle.aw_modular.proofs.Wholes.{told_memory}
use Rattle.aw_modular.proofs.join_parts.accepted.Goals as goal

pub only_memory-requires : goal.only_memory-requires
only_memory-requires c = told_memory c.args.g c.in-Err.refused c.requires c.in-Err.ensures.circular
