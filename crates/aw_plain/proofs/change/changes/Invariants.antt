use Rattle.aw_plain.specs.Changes.{row_taken, IsChangedTo}
use Rattle.aw_plain.proofs.change.changes.Given as goal

abbrev pub invariant-loop-at : goal.invariant-loop-at
invariant-loop-at l = IsChangedTo (row_taken l.taking) l.rows l.changes.items l.at
