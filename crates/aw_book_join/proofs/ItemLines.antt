-- The lines of items, one behind the other.
use Rattle.std.proofs.Common.{◌≡◌, ℕ, ◌+◌, ◌<◌, List, [], ◌∷◌, ◌++◌, length, take, drop, map, get_or, refl, sym, ap, ◌∙◌, append_assoc}
use Rattle.std.specs.Prelude.{Option, codes}
use Rattle.std.proofs.lemmas.List.{take_more, map-append, take-append-drop}
use Rattle.std.proofs.lemmas.List.Elements.{filter-append}
use Rattle.aw_choice.specs.ChoiceView.{item_of}
use Rattle.aw_choice.specs.declared.choice.Item as program
use Rattle.aw_term.specs.Artifacts.{Words, Item, item_text}
use Rattle.aw_term.specs.Runs.{item_lines}
use Rattle.aw_book_join.specs.declared.view.Case.{Case}
use Rattle.aw_book_join.specs.Tasks.{items_of}
use Rattle.aw_book_join.specs.Views.{is_of}

lines-append : (w : Words) (xs ys : List Item) → item_lines w (xs ++ ys) ≡ item_lines w xs ++ item_lines w ys
lines-append w [] ys = refl
lines-append w (x ∷ xs) ys =
    ap (λ (t : List ℕ). item_text w x ++ (codes "\n" ++ t)) (lines-append w xs ys)
    ∙ (ap (λ (t : List ℕ). item_text w x ++ t) (sym (append_assoc (codes "\n") (item_lines w xs) (item_lines w ys)))
    ∙ sym (append_assoc (item_text w x) (codes "\n" ++ item_lines w xs) (item_lines w ys)))

-- the lines of the items of a case among two lists
pub case-append : (w : Words) (c : Option Case) (xs ys : List Item) → item_lines w (items_of c (xs ++ ys)) ≡ item_lines w (items_of c xs) ++ item_lines w (items_of c ys)
case-append w c xs ys = ap (item_lines w) (filter-append (λ (i : Item). is_of c i.node) xs ys) ∙ lines-append w (items_of c xs) (items_of c ys)

-- of the first items of the program, and one more
pub case-more : (w : Words) (c : Option Case) (xs : List program.Item) (i : ℕ) (x : program.Item) → i < length xs → x ≡ get_or xs i x →
    item_lines w (items_of c (map item_of (take (i + 1) xs))) ≡ item_lines w (items_of c (map item_of (take i xs))) ++ item_lines w (items_of c (item_of x ∷ []))
case-more w c xs i x l at =
    ap (λ (ys : List program.Item). item_lines w (items_of c (map item_of ys))) (take_more xs i x l ∙ ap (λ (y : program.Item). take i xs ++ y ∷ []) (sym at))
    ∙ (ap (λ (ys : List Item). item_lines w (items_of c ys)) (map-append item_of (take i xs) (x ∷ [])) ∙ case-append w c (map item_of (take i xs)) (item_of x ∷ []))

-- and those behind it
pub case-rest : (w : Words) (c : Option Case) (xs : List program.Item) (i : ℕ) →
    item_lines w (items_of c (map item_of (take i xs))) ++ item_lines w (items_of c (map item_of (drop i xs))) ≡ item_lines w (items_of c (map item_of xs))
case-rest w c xs i =
    sym (case-append w c (map item_of (take i xs)) (map item_of (drop i xs)))
    ∙ (ap (λ (ys : List Item). item_lines w (items_of c ys)) (sym (map-append item_of (take i xs) (drop i xs)))
    ∙ ap (λ (ys : List program.Item). item_lines w (items_of c (map item_of ys))) (take-append-drop i xs))
