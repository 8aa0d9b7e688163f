use Rattle.aw_apply.proofs.GuardLemmas.{found_live}
use Rattle.aw_apply.proofs.guarding.guard_lit.Goals as goal

pub is_lit-requires : goal.is_lit-requires
is_lit-requires g c = found_live _ _ _ _ c.requires c.in-Found.ensures
