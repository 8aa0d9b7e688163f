-- Configurations: rows in the order of nodes, and what one taken choice does to them.
use Rattle.std.specs.Prelude.{ℕ, zero, suc, List, [], ◌∷◌, ◌++◌, map, length, Option, if◌then◌else◌}
use Rattle.aw_term.specs.Trees.{Num, Leaf, Made, Nil, Tree, bind}
use Rattle.aw_term.specs.Names.{Node, Ref, Slot, Result, Part, node_eq, below, result}
use Rattle.aw_term.specs.ByNode.{insert_by, insert_all_by, find_by}
use Rattle.aw_term.specs.Rules.{Term, Ground, Value, Child, Rule, get, nth, upto}

-- no rule was taken yet, or this rule with these arguments
pub data State : Type 0 where
  Pending : State
  Done : (rule : ℕ) → (args : List Ground) → State

-- a node with its inherited values and its results
pub record Row : Type 0 where
  pub node : Node
  pub sort : ℕ
  pub inherited : List Value
  pub results : List Value
  pub state : State

-- a configuration: the rows of all nodes, in the order of nodes
abbrev pub Config : Type 0
Config = List Row

-- an argument as a tree with any leaves
abbrev pub lift : {A : Type 0} → Ground → Tree A
lift t = bind (λ x. elim x [ ]) t

-- the results of a pending node, counted from 1
abbrev pub holes : Node → ℕ → List Value
holes n m = map (λ j. Leaf (result n j)) (upto 1 m)

-- the results of a rule's children from child k on, in order
abbrev pub child_holes : Node → ℕ → ℕ → List Child → List Value
child_holes n r k [] = []
child_holes n r k (c ∷ cs) = holes (below n r k) c.outs ++ child_holes n r (suc k) cs

-- the values of a rule's variables by number: bound by patterns, entered, and results of children
abbrev pub env : Node → ℕ → Rule → List Value → List Ground → List Value
env n r rule bound args = bound ++ (map lift args ++ child_holes n r 1 rule.children)

-- no variable of a well-formed rule is without a value
abbrev pub nothing : Value
nothing = Made (Num 0) Nil

-- a term with the values of its variables
abbrev pub fill : List Value → Term → Value
fill e t = bind (get nothing e) t

-- the rows of a rule's children from child k on
abbrev pub child_rows : Node → ℕ → List Value → ℕ → List Child → List Row
child_rows n r e k [] = []
child_rows n r e k (c ∷ cs) =
    record { node = below n r k; sort = c.sort; inherited = map (fill e) c.args; results = holes (below n r k) c.outs; state = Pending }
    ∷ child_rows n r e (suc k) cs

-- a row before the first that is after it
abbrev pub insert_row : Row → Config → Config
insert_row r c = insert_by (λ (q : Row). q.node) r c

-- each of some rows in turn
abbrev pub insert_rows : List Row → Config → Config
insert_rows rs c = insert_all_by (λ (q : Row). q.node) rs c

-- the row of a node, where it is held
abbrev pub row_of : Node → Config → Option Row
row_of n c = find_by (λ (q : Row). q.node) n c

-- the row of n takes this state, and each other row stays
abbrev pub done_row : Node → State → Row → Row
done_row n s q = if node_eq n q.node then record q { state = s } else q

-- what stands for a value of a node that has these results: result j is the j-th of them. A part, or a j past the last, does not come: a hole of
-- a configuration is one of the results of its node.
abbrev pub result_at : List Value → Ref → Slot → Value
result_at results h (Result j) = nth nothing results j
result_at results h (Part k) = Leaf h

-- what a hole becomes where result j of n is the j-th of these
abbrev pub put : Node → List Value → Ref → Value
put n results h = if node_eq n h.node then result_at results h h.slot else Leaf h

-- every tree of a row with its holes replaced at once
abbrev pub row_put : (Ref → Value) → Row → Row
row_put f q = record q { inherited = map (bind f) q.inherited; results = map (bind f) q.results }

-- what comes of x after this many rounds of f
abbrev pub rounds : {A : Type 0} → ℕ → (A → A) → A → A
rounds zero f x = x
rounds (suc m) f x = rounds m f (f x)

-- Rule number r is taken on n. Its children are added as pending rows, the row of n is done, and then, as many times as there are results,
-- all holes of n in all rows are replaced at once by the result terms: a node may be fed by its own result.
abbrev pub develop : Node → ℕ → Rule → List Value → List Ground → Config → Config
develop n r rule bound args c =
    let e = env n r rule bound args in
    let added = insert_rows (child_rows n r e 1 rule.children) (map (done_row n (Done r args)) c) in
    rounds (length rule.results) (map (row_put (put n (map (fill e) rule.results)))) added
