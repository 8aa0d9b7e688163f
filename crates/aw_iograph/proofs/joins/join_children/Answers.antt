use Rattle.std.proofs.Common.{◌≡◌, ap, sym, ◌∙◌}
use Rattle.std.specs.Prelude.{◌||◌}
use Rattle.aw_list.proofs.Members.{got_here}
use Rattle.aw_iograph.proofs.StepJoins.{child_in, joins_no_child, joins_children}
use Rattle.aw_iograph.proofs.joins.join_children.Goals as goal
use Rattle.aw_iograph.proofs.joins.join_children.Goals.{then-branch, else-branch}

pub join_child-requires-clause-placed : goal.join_child-requires-clause-placed
join_child-requires-clause-placed c a q =
    c.requires.placed a
    (child_in c.args.entries.now c.args.io.now c.args.children.now c.loop-k.k c.child-item.result
    (got_here c.as_slice-child-items.result.now c.args.children.now c.loop-k.k c.child-item.result c.as_slice-child-items.ensures c.loop-k-test.true c.child-item.is) a q)

pub loop-k-init : goal.loop-k-init
loop-k-init c = joins_no_child c.args.entries.now c.args.io.now c.args.children.now c.args.rows.now.items c.args.read.now.items

pub loop-k-preserved : goal.loop-k-preserved
loop-k-preserved c =
    let both : c.if-branch.again ≡ (c.in_ok-join_child.field-0 || c.loop-k.again) = elim c.if-branch.branch [
      | then-branch w ↦ w.again-is ∙ sym (ap (λ b. b || c.loop-k.again) w.if-branch.true)
      | else-branch w ↦ w.again-is ∙ sym (ap (λ b. b || c.loop-k.again) w.if-branch.false)
    ] in
    joins_children c.args.entries.now c.args.io.now c.args.children.now c.loop-k.k c.child-item.result _ _ _ _ _ _ _ _ _
    (got_here c.as_slice-child-items.result.now c.args.children.now c.loop-k.k c.child-item.result c.as_slice-child-items.ensures c.loop-k-test.true c.child-item.is)
    both c.loop-k.invariant c.in_ok-join_child.ensures
