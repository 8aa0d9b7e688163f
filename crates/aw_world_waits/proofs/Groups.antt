-- The items of one node stand in front of those of others.
use Rattle.std.proofs.Common.{◌≡◌, ℕ, ◌+◌, suc, Bool, true, false, cond, List, [], ◌∷◌, ◌++◌, map, take, drop, refl, sym, ap, ◌∙◌, subst, inl, inr, arith}
use Rattle.std.specs.List.{prefix_len}
use Rattle.aw_list.specs.Members.{Member}
use Rattle.aw_list.proofs.Members.{never}
use Rattle.aw_term.specs.Artifacts as plain
use Rattle.aw_term.specs.Names.{Node, node_eq}
use Rattle.aw_term.specs.Trees.{Never}
use Rattle.aw_name.specs.SameNodes.{node_is, node_self}
use Rattle.aw_choice.specs.declared.choice.Item.{Item}
use Rattle.aw_choice.specs.ChoiceView.{item_of}

-- how many items stand in front that are of the node
abbrev pub front : Node → List Item → ℕ
front n rest = prefix_len (λ i. node_eq i.node n) rest

pub none_in_front : (n : Node) (rest : List Item) (later : List plain.Item) → map item_of rest ≡ later → ((i : plain.Item) → Member i later → i.node ≡ n → Never) → front n rest ≡ 0
none_in_front n [] later e f = refl
none_in_front n (r ∷ rest) [] e f = absurd cc
none_in_front n (r ∷ rest) (i ∷ later) e f = go (node_eq r.node n) refl
  where
    go : (b : Bool) → node_eq r.node n ≡ b → cond b (1 + front n rest) 0 ≡ 0
    go true same = let head : item_of r ≡ i = cc in never (f i (inl refl) (sym (ap (λ (i : plain.Item). i.node) head) ∙ node_is r.node n same))
    go false same = refl

-- those of the node, and then the others
pub split : (n : Node) (own later : List plain.Item) (rest : List Item) → map item_of rest ≡ own ++ later →
    ((i : plain.Item) → Member i own → i.node ≡ n) → ((i : plain.Item) → Member i later → i.node ≡ n → Never)
    → (map item_of (take (front n rest) rest) ≡ own) × (map item_of (drop (front n rest) rest) ≡ later)
split n [] later rest e here there =
    let none = none_in_front n rest later e there in
    (ap (λ k. map item_of (take k rest)) none ∙ none_taken rest, ap (λ k. map item_of (drop k rest)) none ∙ all_left rest ∙ e)
  where
    none_taken : (xs : List Item) → map item_of (take 0 xs) ≡ []
    none_taken [] = refl
    none_taken (x ∷ xs) = refl

    all_left : (xs : List Item) → map item_of (drop 0 xs) ≡ map item_of xs
    all_left [] = refl
    all_left (x ∷ xs) = refl
split n (i ∷ own) later [] e here there = absurd cc
split n (i ∷ own) later (r ∷ rest) e here there =
    let head : item_of r ≡ i = cc in
    let tail : map item_of rest ≡ own ++ later = cc in
    let same : node_eq r.node n ≡ true = subst (λ m. node_eq m n ≡ true) (sym (ap (λ (i : plain.Item). i.node) head ∙ here i (inl refl))) (node_self n) in
    let one : 1 + front n rest ≡ suc (front n rest) = omega arith in
    let more : front n (r ∷ rest) ≡ suc (front n rest) = ap (λ b. cond b (1 + front n rest) 0) same ∙ one in
    let (a, b) = split n own later rest tail (λ j m. here j (inr m)) there in
    (ap (λ k. map item_of (take k (r ∷ rest))) more ∙ (λ t. head t ∷ a t), ap (λ k. map item_of (drop k (r ∷ rest))) more ∙ b)
