use Rattle.std.proofs.Common.{◌≡◌, ◌≤◌, ◌-◌, []}
use Rattle.std.specs.Prelude.{All, vec_len}
use Rattle.aw_node_list.proofs.chunks.add_spare.Given as goal

abbrev pub invariant-loop-alloc : goal.invariant-loop-alloc
invariant-loop-alloc l = record {
  empty : All (λ c. c ≡ []) l.spare.items;
  kept : vec_len l.fn.spare ≤ vec_len l.spare;
}

abbrev pub decreases-loop-alloc : goal.decreases-loop-alloc
decreases-loop-alloc l = l.most - vec_len l.spare
