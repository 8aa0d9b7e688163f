use Rattle.aw_space.proofs.Beginning.{new_sound, new_valid, new_kept}
use Rattle.aw_space.proofs.space.Space.new.Goals as goal

pub invariant_of-result : goal.invariant_of-result
invariant_of-result g c = record {
  sound = new_sound _ _ _ _ _ c.new-held.ensures.items c.requires;
  valid = new_valid _ _ _ c.new-held.ensures.items c.requires;
  stands = new_kept _ c.new-held.result _ _ c.new-kept.result c.new-held.ensures.items c.new-held.ensures.numbers (c.new-kept.ensures _ _ _);
}
