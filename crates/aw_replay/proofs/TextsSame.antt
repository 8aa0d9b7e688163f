-- No text names a role.
use Rattle.std.proofs.Common.{◌≡◌, ℕ, List, [], ◌∷◌, ◌++◌, map, length, codes, refl, ap, ◌∙◌}
use Rattle.std.specs.Fmt.{decimal}
use Rattle.aw_term.specs.Trees.{Head, Con, Num, Text, Tree, Leaf, Made, Trees, Nil, More}
use Rattle.aw_term.specs.Names.{Step, Node, Ref}
use Rattle.aw_term.specs.Rules.{Ground, Value, get}
use Rattle.aw_term.specs.Configs.{State, Pending, Done, Row, Config}
use Rattle.aw_term.specs.Choices.{Choice, Start, Develop, Answer, Known, NotHere, Developed, NotItsRule, Arguments, WaitsFor, Mismatch, CircleAt, TooDeep, Taken}
use Rattle.aw_term.specs.Artifacts.{Words, listed, step_text, steps_text, node_text, slot_text, ref_text, head_text, with_parts, tree_text, trees_texts}
use Rattle.aw_term.specs.Artifacts.{value_text, ground_text, state_text, row_text, artifact_text, answer_text}
use Rattle.aw_term.specs.Runs.{choice_text, answer_line, artifacts}
use Rattle.aw_replay.specs.United.{united_words}
use Rattle.aw_replay.proofs.SameMaps.{map_same}

steps_same : (w : Words) (ss : List Step) → steps_text (united_words w) ss ≡ steps_text w ss
steps_same w [] = refl
steps_same w (s ∷ ss) = ap (λ t. step_text w s ++ t) (steps_same w ss)

node_same : (w : Words) (n : Node) → node_text (united_words w) n ≡ node_text w n
node_same w n = ap (λ t. get [] w.sorts n.start ++ (codes "#" ++ (decimal n.case ++ t))) (steps_same w n.steps)

ref_same : (w : Words) (r : Ref) → ref_text (united_words w) r ≡ ref_text w r
ref_same w r = ap (λ t. t ++ slot_text r.slot) (node_same w r.node)

head_same : (w : Words) (h : Head) → head_text (united_words w) h ≡ head_text w h
head_same w (Con c) = refl
head_same w (Num n) = refl
head_same w (Text t) = refl

-- a tree, where its leaves are written alike
module _ {A : Type 0} (w : Words) (f g : A → List ℕ) (same : (x : A) → f x ≡ g x) where
  mutual
    tree_same : (t : Tree A) → tree_text (united_words w) f t ≡ tree_text w g t
    tree_same (Leaf x) = same x
    tree_same (Made h ts) = ap (λ u. with_parts u (trees_texts (united_words w) f ts)) (head_same w h) ∙ ap (with_parts (head_text w h)) (trees_same ts)

    trees_same : (ts : Trees A) → trees_texts (united_words w) f ts ≡ trees_texts w g ts
    trees_same Nil = refl
    trees_same (More t ts) = ap (λ u. u ∷ trees_texts (united_words w) f ts) (tree_same t) ∙ ap (λ us. tree_text w g t ∷ us) (trees_same ts)

value_same : (w : Words) (t : Value) → value_text (united_words w) t ≡ value_text w t
value_same w t = tree_same w (λ r. codes "?" ++ ref_text (united_words w) r) (λ r. codes "?" ++ ref_text w r) (λ r. ap (λ u. codes "?" ++ u) (ref_same w r)) t

ground_same : (w : Words) (t : Ground) → ground_text (united_words w) t ≡ ground_text w t
ground_same w t = tree_same w (λ x. elim x [ ]) (λ x. elim x [ ]) (λ x. refl) t

state_same : (w : Words) (s : State) → state_text (united_words w) s ≡ state_text w s
state_same w Pending = refl
state_same w (Done r args) = ap (λ ts. get [] w.rules r ++ (codes " {" ++ (listed ts ++ codes "}"))) (map_same (ground_text (united_words w)) (ground_text w) (ground_same w) args)

-- a row of these parts
abbrev line_of : List ℕ → List ℕ → List (List ℕ) → List (List ℕ) → List ℕ
line_of node state inherited results = node ++ (codes " " ++ (state ++ (codes " (" ++ (listed inherited ++ (codes ") <" ++ (listed results ++ codes ">\n"))))))

row_same : (w : Words) (q : Row) → row_text (united_words w) q ≡ row_text w q
row_same w q =
    let u = united_words w in
    let values = map_same (value_text u) (value_text w) (value_same w) in
    ap (λ t. line_of t (state_text u q.state) (map (value_text u) q.inherited) (map (value_text u) q.results)) (node_same w q.node)
    ∙ ap (λ t. line_of (node_text w q.node) t (map (value_text u) q.inherited) (map (value_text u) q.results)) (state_same w q.state)
    ∙ ap (λ ts. line_of (node_text w q.node) (state_text w q.state) ts (map (value_text u) q.results)) (values q.inherited)
    ∙ ap (λ ts. line_of (node_text w q.node) (state_text w q.state) (map (value_text w) q.inherited) ts) (values q.results)

rows_same : (w : Words) (c : Config) → artifact_text (united_words w) c ≡ artifact_text w c
rows_same w [] = refl
rows_same w (q ∷ qs) = ap (λ t. t ++ artifact_text (united_words w) qs) (row_same w q) ∙ ap (λ t. row_text w q ++ t) (rows_same w qs)

pub artifacts_same : (w : Words) (c : Config) → artifacts (united_words w) c ≡ artifacts w c
artifacts_same w c = ap (λ t. codes "artifacts " ++ (decimal (length c) ++ (codes "\n" ++ t))) (rows_same w c)

answer_same : (w : Words) (a : Answer Ref) → answer_text (united_words w) a ≡ answer_text w a
answer_same w Known = refl
answer_same w NotHere = refl
answer_same w Developed = refl
answer_same w NotItsRule = refl
answer_same w Arguments = refl
answer_same w (WaitsFor r) = ap (λ t. codes "waits " ++ t) (ref_same w r)
answer_same w (Mismatch path) = refl
answer_same w (CircleAt r) = ap (λ t. codes "circle " ++ t) (ref_same w r)
answer_same w TooDeep = refl
answer_same w Taken = refl

choice_same : (w : Words) (x : Choice) → choice_text (united_words w) x ≡ choice_text w x
choice_same w (Start s k) = refl
choice_same w (Develop n r args) = ap (λ t. codes "choose " ++ (t ++ (codes " " ++ get [] w.rules r))) (node_same w n)

pub answer_line_same : (w : Words) (x : Choice) (a : Answer Ref) → answer_line (united_words w) x a ≡ answer_line w x a
answer_line_same w x a =
    ap (λ t. t ++ (codes ": " ++ (answer_text (united_words w) a ++ codes "\n"))) (choice_same w x)
    ∙ ap (λ t. choice_text w x ++ (codes ": " ++ (t ++ codes "\n"))) (answer_same w a)
