-- A choice keeps the order of rows.
use Rattle.std.proofs.Common.{◌≡◌, ℕ, List, length, map, ◌∙◌, refl}
use Rattle.aw_term.specs.Names.{Node, Ref}
use Rattle.aw_term.specs.Rules.{Value, Ground, Rule, Grammar}
use Rattle.aw_term.specs.Configs.{State, Done, Row, Config, done_row, env, fill, put, child_rows, row_put, develop, insert_rows, rounds}
use Rattle.aw_term.specs.Choices.{Choice, Start, Develop, Outcome, Refused, Starts, Takes, start_row, outcome, taken, or_same, after}
use Rattle.aw_term.proofs.ByNodeLemmas.{ordered_inserted, ordered_all_inserted, ordered_mapped, ordered_rounds}
use Rattle.aw_term.proofs.RowParts.{done_node, rounds_node}
use Rattle.aw_plain.specs.Ordered.{IsOrdered}

abbrev pub at_row : Row → Node
at_row q = q.node

-- a taken rule keeps the nodes of the rows that were held
pub after_node : (n : Node) (s : State) (m : ℕ) (f : Ref → Value) (q : Row) → (rounds m (row_put f) (done_row n s q)).node ≡ q.node
after_node n s m f q = rounds_node m f (done_row n s q) ∙ done_node n s q

ordered_developed : (n : Node) (r : ℕ) (rule : Rule) (bound : List Value) (args : List Ground) (c : Config) → IsOrdered c → IsOrdered (develop n r rule bound args c)
ordered_developed n r rule bound args c up =
    let e = env n r rule bound args in
    let made = child_rows n r e 1 rule.children in
    let done = map (done_row n (Done r args)) c in
    ordered_rounds at_row (row_put (put n (map (fill e) rule.results))) (λ q. refl) (length rule.results) (insert_rows made done)
    (ordered_all_inserted at_row made done (ordered_mapped at_row (done_row n (Done r args)) (done_node n (Done r args)) c up))

ordered_taken : (g : Grammar) (c : Config) (x : Choice) (o : Outcome Value Ref) → IsOrdered c → IsOrdered (or_same c (taken g c x o))
ordered_taken g c x (Refused a) up = up
ordered_taken g c (Start s k) Starts up = ordered_inserted at_row (start_row g s k) c up
ordered_taken g c (Start s k) (Takes rule bound) up = up
ordered_taken g c (Develop n r args) Starts up = up
ordered_taken g c (Develop n r args) (Takes rule bound) up = ordered_developed n r rule bound args c up

-- a choice keeps the order
pub ordered_after : (g : Grammar) (c : Config) (x : Choice) → IsOrdered c → IsOrdered (after g c x)
ordered_after g c x up = ordered_taken g c x (outcome g c x) up
