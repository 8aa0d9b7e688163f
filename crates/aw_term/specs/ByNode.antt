-- Lists of records that each stand at a node, in the order of nodes.
use Rattle.std.specs.Prelude.{List, [], ◌∷◌, Option, Some, None, if◌then◌else◌}
use Rattle.std.specs.List.Sorted.{IsSortedBy}
use Rattle.aw_term.specs.Names.{Node, node_eq, node_lt}

-- no record comes before the one in front of it
abbrev pub IsOrderedBy : {A : Type 0} → (A → Node) → List A → Type 0
IsOrderedBy {A} at xs = IsSortedBy (λ (x y : A). node_lt (at x) (at y)) xs

-- a record before the first that is after it
abbrev pub insert_by : {A : Type 0} → (A → Node) → A → List A → List A
insert_by at x [] = x ∷ []
insert_by at x (y ∷ ys) = if node_lt (at x) (at y) then x ∷ y ∷ ys else y ∷ insert_by at x ys

-- each of some records in turn
abbrev pub insert_all_by : {A : Type 0} → (A → Node) → List A → List A → List A
insert_all_by at [] ys = ys
insert_all_by at (x ∷ xs) ys = insert_all_by at xs (insert_by at x ys)

-- the first record at a node
abbrev pub find_by : {A : Type 0} → (A → Node) → Node → List A → Option A
find_by at n [] = None
find_by at n (x ∷ xs) = if node_eq n (at x) then Some x else find_by at n xs
