-- Texts: of names, references, values, answers, and of the rows of a configuration.
use Rattle.std.specs.Prelude.{ℕ, List, [], ◌∷◌, ◌++◌, map, codes, Option, None, Some}
use Rattle.std.specs.Fmt.{decimal}
use Rattle.aw_spelling.specs.Spelling.{quoted}
use Rattle.aw_term.specs.Trees.{Head, Con, Num, Text, Tree, Leaf, Made, Trees, Nil, More}
use Rattle.aw_term.specs.Names.{Step, Node, Slot, Result, Part, Ref}
use Rattle.aw_term.specs.Rules.{Ground, Value, get}
use Rattle.aw_term.specs.Configs.{State, Pending, Done, Row, Config}
use Rattle.aw_term.specs.Choices.{Answer, Known, NotHere, Developed, NotItsRule, Arguments, WaitsFor, Mismatch, CircleAt, TooDeep, Taken}

-- the names that a specification declares, each list in its order
-- (in the texts below a number without a name here is written as nothing, which does not come of a well-formed grammar and valid nodes)
pub record Words : Type 0 where
  pub roles : List (List ℕ)
  pub cons : List (List ℕ)
  pub sorts : List (List ℕ)
  pub rules : List (List ℕ)

-- texts with a separator between each two
abbrev pub joined : List ℕ → List (List ℕ) → List ℕ
joined between [] = []
joined between (t ∷ []) = t
joined between (t ∷ u ∷ us) = t ++ (between ++ joined between (u ∷ us))

-- items are separated by a comma and a space
abbrev pub listed : List (List ℕ) → List ℕ
listed ts = joined (codes ", ") ts

-- `/admit.1`
abbrev pub step_text : Words → Step → List ℕ
step_text w s = codes "/" ++ (get [] w.rules s.rule ++ (codes "." ++ decimal s.child))

-- the texts of some steps, one behind the other
abbrev pub steps_text : Words → List Step → List ℕ
steps_text w [] = []
steps_text w (s ∷ ss) = step_text w s ++ steps_text w ss

-- `visit#1/admit.1`
abbrev pub node_text : Words → Node → List ℕ
node_text w n = get [] w.sorts n.start ++ (codes "#" ++ (decimal n.case ++ steps_text w n.steps))

-- `:r1`, `:p2`
abbrev pub slot_text : Slot → List ℕ
slot_text (Result j) = codes ":r" ++ decimal j
slot_text (Part k) = codes ":p" ++ decimal k

-- `visit#1:r1`, `visit#1:p2`
abbrev pub ref_text : Words → Ref → List ℕ
ref_text w r = node_text w r.node ++ slot_text r.slot

-- a constructor by its name, a number in digits, a text between quotes
abbrev pub head_text : Words → Head → List ℕ
head_text w (Con c) = get [] w.cons c
head_text w (Num n) = decimal n
head_text w (Text t) = quoted t

-- a head with its parts, in parentheses where it has any
abbrev pub with_parts : List ℕ → List (List ℕ) → List ℕ
with_parts head [] = head
with_parts head (p ∷ ps) = head ++ (codes "(" ++ (listed (p ∷ ps) ++ codes ")"))

-- a tree, where `leaf` writes its leaves
abbrev mutual
  pub tree_text : {A : Type 0} → Words → (A → List ℕ) → Tree A → List ℕ
  tree_text w leaf (Leaf x) = leaf x
  tree_text w leaf (Made h ts) = with_parts (head_text w h) (trees_texts w leaf ts)

  pub trees_texts : {A : Type 0} → Words → (A → List ℕ) → Trees A → List (List ℕ)
  trees_texts w leaf Nil = []
  trees_texts w leaf (More t ts) = tree_text w leaf t ∷ trees_texts w leaf ts

-- a value; a hole is written `?visit#1:r1`
abbrev pub value_text : Words → Value → List ℕ
value_text w t = tree_text w (λ r. codes "?" ++ ref_text w r) t

-- an argument
abbrev pub ground_text : Words → Ground → List ℕ
ground_text w t = tree_text w (λ x. elim x [ ]) t

-- what a row is: open, or the rule that was taken with its arguments
abbrev pub state_text : Words → State → List ℕ
state_text w Pending = codes "open"
state_text w (Done r args) = get [] w.rules r ++ (codes " {" ++ (listed (map (ground_text w) args) ++ codes "}"))

-- one line: `visit#1 admit {"Ada"} () <..>`
abbrev pub row_text : Words → Row → List ℕ
row_text w q =
    node_text w q.node ++ (codes " " ++ (state_text w q.state ++ (codes " (" ++ (listed (map (value_text w) q.inherited)
    ++ (codes ") <" ++ (listed (map (value_text w) q.results) ++ codes ">\n"))))))

-- one line for each row, in the order of nodes
abbrev pub artifact_text : Words → Config → List ℕ
artifact_text w [] = []
artifact_text w (q ∷ qs) = row_text w q ++ artifact_text w qs

-- `1.2`: the numbers of a place with full stops between them
abbrev pub place_text : List ℕ → List ℕ
place_text path = joined (codes ".") (map decimal path)

-- the text of an answer
abbrev pub answer_text : Words → Answer Ref → List ℕ
answer_text w Known = codes "known"
answer_text w NotHere = codes "unknown"
answer_text w Developed = codes "developed"
answer_text w NotItsRule = codes "wrong rule"
answer_text w Arguments = codes "arguments"
answer_text w (WaitsFor r) = codes "waits " ++ ref_text w r
answer_text w (Mismatch path) = codes "mismatch " ++ place_text path
answer_text w (CircleAt r) = codes "circle " ++ ref_text w r
answer_text w TooDeep = codes "deep"
answer_text w Taken = codes "taken"

-- a rule at an open node, and the answer that a choice of it would have where it is not ready
pub record Item : Type 0 where
  pub node : Node
  pub rule : ℕ
  pub refusal : Option (Answer Ref)

-- `ready`, or the text of the answer that a choice would have
abbrev pub standing_text : Words → Option (Answer Ref) → List ℕ
standing_text w None = codes "ready"
standing_text w (Some a) = answer_text w a

-- `item visit#1 admit ready`
abbrev pub item_text : Words → Item → List ℕ
item_text w i = codes "item " ++ (node_text w i.node ++ (codes " " ++ (get [] w.rules i.rule ++ (codes " " ++ standing_text w i.refusal))))
