use Rattle.std.proofs.Common.{arith}
use Rattle.std.proofs.lemmas.Option.{slice_get_within}
use Rattle.aw_store.proofs.ChaseLemmas.{chasing_start, chasing_on, chased_missing, chased_found}
use Rattle.aw_store.proofs.follow.chase.Goals as goal

pub loop-i-init : goal.loop-i-init
loop-i-init g c = chasing_start _ _ _ c.requires

pub look_at-requires : goal.look_at-requires
look_at-requires g c = slice_get_within _ _ _ c.loop-i.invariant.named

pub look_at-requires-2 : goal.look_at-requires-2
look_at-requires-2 g c = slice_get_within _ _ _ c.loop-i.invariant.named

pub loop-i-preserved : goal.loop-i-preserved
loop-i-preserved g c = chasing_on _ _ _ _ _ _ c.loop-i.invariant (omega arith) (c.in-On.ensures _ c.loop-i.invariant.named)

pub returns-in-Missing : goal.returns-in-Missing
returns-in-Missing g c = chased_missing _ _ _ _ _ c.loop-i.invariant (c.in-Missing.ensures _ c.loop-i.invariant.named)

pub returns-in-Found : goal.returns-in-Found
returns-in-Found g c = chased_found _ _ _ _ _ c.loop-i.invariant (c.in-Found.ensures _ c.loop-i.invariant.named)
