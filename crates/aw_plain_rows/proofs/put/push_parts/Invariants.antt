use Rattle.std.proofs.Common.{◌≡◌, ◌+◌, ◌*◌, ◌≤◌, ◌++◌, List, map, drop, length}
use Rattle.aw_term.specs.Trees.{bind}
use Rattle.aw_term.specs.Rules.{Value}
use Rattle.aw_term.specs.Names.{Ref}
use Rattle.aw_plain_rows.specs.TreeView.{value_of}
use Rattle.aw_plain_rows.specs.Jobs.{finish, work}
use Rattle.aw_plain_rows.specs.Places.{places_of_all}
use Rattle.aw_plain_rows.proofs.put.push_parts.Given as goal

abbrev pub invariant-loop-k : goal.invariant-loop-k
invariant-loop-k l = record {
  within : l.k ≤ length l.parts;
  finish : (f : Ref → Value) (vs : List Value) → finish f l.todo.items vs ≡ finish f l.fn.todo.items (vs ++ map (λ t. bind f (value_of t)) (drop l.k l.parts));
  work : work l.todo.items ≡ work l.fn.todo.items + 2 * places_of_all (drop l.k l.parts);
}

abbrev pub decreases-loop-k : goal.decreases-loop-k
decreases-loop-k l = l.k
