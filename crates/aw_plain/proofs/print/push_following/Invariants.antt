use Rattle.std.proofs.Common.{◌≡◌, ◌+◌, ◌*◌, ◌≤◌, ◌++◌, drop, length}
use Rattle.aw_term.specs.Artifacts.{Words}
use Rattle.aw_plain_rows.specs.Places.{places_of_all}
use Rattle.aw_plain.specs.Pieces.{texts_under, following, pending, pieces_work}
use Rattle.aw_plain.proofs.print.push_following.Given as goal

abbrev pub invariant-loop-k : goal.invariant-loop-k
invariant-loop-k l = record {
  within : l.k ≤ length l.trees;
  text : (w : Words) → pending w l.pieces.items ≡ following (texts_under w l.whole (drop l.k l.trees)) ++ pending w l.fn.pieces.items;
  work : pieces_work l.pieces.items ≡ pieces_work l.fn.pieces.items + 2 * places_of_all (drop l.k l.trees);
}

abbrev pub decreases-loop-k : goal.decreases-loop-k
decreases-loop-k l = l.k
