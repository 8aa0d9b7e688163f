-- Rows that are changed in their places.
use Rattle.std.proofs.Common.{◌≡◌, ℕ, zero, suc, ◌+◌, ◌<◌, List, [], ◌∷◌, ◌++◌, map, length, take, drop, set, get_or, Bool, true, false, cond, ap, sym, ◌∙◌, refl, arith}
use Rattle.std.proofs.lemmas.List.{map-set, map-id, length-map}
use Rattle.std.proofs.lemmas.Simd.{map-map}
use Rattle.aw_term.specs.Names.{Node, node_lt}
use Rattle.aw_term.specs.Rules.{Value, Ground, Rule}
use Rattle.aw_term.specs.Configs as Q
use Rattle.aw_term.specs.Configs.{Done, Config, done_row, rounds, env, fill, child_rows, insert_row, insert_rows, row_put, put, develop}
use Rattle.aw_term.proofs.RowParts.{rounds_node}
use Rattle.aw_plain_rows.specs.declared.row.Row.{Row}
use Rattle.aw_plain.specs.declared.change.Change.{Change}
use Rattle.aw_plain_rows.specs.RowView.{plain_row, config_of}
use Rattle.aw_plain_rows.specs.Rounds.{row_fed}
use Rattle.aw_plain.specs.Changes.{row_after, changed, IsChangedTo}

-- one more change is made last
pub changed_more : (rows : List Row) (xs : List Change) (x : Change) → changed rows (xs ++ x ∷ []) ≡ set (changed rows xs) x.at x.row
changed_more rows [] x = refl
changed_more rows (y ∷ xs) x = changed_more (set rows y.at y.row) xs x

-- one more place is as f makes it
one_more : {A : Type 0} (f : A → A) (c : List A) (i k : ℕ) (q : A) → k ≡ suc i → i < length c → q ≡ get_or c i q → set (map f (take i c) ++ drop i c) i (f q) ≡ map f (take k c) ++ drop k c
one_more f [] i k q e l g = absurd (omega (arith, l))
one_more f (x ∷ xs) zero k q e l g = ap (λ y. f y ∷ xs) g ∙ sym (ap (λ n. map f (take n (x ∷ xs)) ++ drop n (x ∷ xs)) e)
one_more f (x ∷ xs) (suc i) k q e l g = ap (λ ys. f x ∷ ys) (one_more f xs i (suc i) q refl (omega (arith, l)) g) ∙ sym (ap (λ n. map f (take n (x ∷ xs)) ++ drop n (x ∷ xs)) e)

same_more : {A : Type 0} (f : A → A) (c : List A) (i k : ℕ) (q : A) → k ≡ suc i → i < length c → q ≡ get_or c i q → q ≡ f q → map f (take i c) ++ drop i c ≡ map f (take k c) ++ drop k c
same_more f [] i k q e l g s = absurd (omega (arith, l))
same_more f (x ∷ xs) zero k q e l g s = ap (λ y. y ∷ xs) (sym g ∙ s ∙ ap f g) ∙ sym (ap (λ n. map f (take n (x ∷ xs)) ++ drop n (x ∷ xs)) e)
same_more f (x ∷ xs) (suc i) k q e l g s = ap (λ ys. f x ∷ ys) (same_more f xs i (suc i) q refl (omega (arith, l)) g s) ∙ sym (ap (λ n. map f (take n (x ∷ xs)) ++ drop n (x ∷ xs)) e)

plain_at : (rows : List Row) (i : ℕ) (q : Row) → q ≡ get_or rows i q → plain_row q ≡ get_or (config_of rows) i (plain_row q)
plain_at [] i q e = refl
plain_at (x ∷ xs) zero q e = ap plain_row e
plain_at (x ∷ xs) (suc i) q e = plain_at xs i q e

pub change_some : (f : Q.Row → Q.Row) (rows : List Row) (xs : List Change) (x : Change) (q : Row) → x.at < length rows → q ≡ get_or rows x.at q →
    plain_row x.row ≡ f (plain_row q) → IsChangedTo f rows xs x.at → IsChangedTo f rows (xs ++ x ∷ []) (x.at + 1)
change_some f rows xs x q l g e w =
    ap config_of (changed_more rows xs x) ∙ map-set plain_row (changed rows xs) x.at x.row
    ∙ ap (λ c. set c x.at (plain_row x.row)) w
    ∙ ap (set (map f (take x.at (config_of rows)) ++ drop x.at (config_of rows)) x.at) e
    ∙ one_more f (config_of rows) x.at (x.at + 1) (plain_row q) (omega arith) (omega (arith, l, length-map rows plain_row)) (plain_at rows x.at q g)

pub change_none : (f : Q.Row → Q.Row) (rows : List Row) (xs : List Change) (i : ℕ) (q : Row) → i < length rows → q ≡ get_or rows i q →
    plain_row q ≡ f (plain_row q) → IsChangedTo f rows xs i → IsChangedTo f rows xs (i + 1)
change_none f rows xs i q l g e w =
    w ∙ same_more f (config_of rows) i (i + 1) (plain_row q) (omega arith) (omega (arith, l, length-map rows plain_row)) (plain_at rows i q g) e

-- rounds over all rows are rounds over each
rounds_map : {A : Type 0} (m : ℕ) (f : A → A) (xs : List A) → rounds m (map f) xs ≡ map (rounds m f) xs
rounds_map zero f xs = sym (map-id xs)
rounds_map (suc m) f xs = rounds_map m f (map f xs) ∙ map-map (rounds m f) f xs

-- rows are placed by their nodes, which replacing keeps
module _ (f : Q.Row → Q.Row) (keeps : (q : Q.Row) → (f q).node ≡ q.node) where
  insert_cases : (b : Bool) (r q : Q.Row) (qs zs : Config) → map f (cond b (r ∷ q ∷ qs) (q ∷ zs)) ≡ cond b (f r ∷ f q ∷ map f qs) (f q ∷ map f zs)
  insert_cases true r q qs zs = refl
  insert_cases false r q qs zs = refl

  map_insert : (r : Q.Row) (c : Config) → map f (insert_row r c) ≡ insert_row (f r) (map f c)
  map_insert r [] = refl
  map_insert r (q ∷ qs) =
      insert_cases (node_lt r.node q.node) r q qs (insert_row r qs)
      ∙ ap (λ b. cond b (f r ∷ f q ∷ map f qs) (f q ∷ map f (insert_row r qs))) (ap (λ n. node_lt n q.node) (sym (keeps r)) ∙ ap (node_lt (f r).node) (sym (keeps q)))
      ∙ ap (λ zs. cond (node_lt (f r).node (f q).node) (f r ∷ f q ∷ map f qs) (f q ∷ zs)) (map_insert r qs)

  map_inserts : (rs : List Q.Row) (c : Config) → map f (insert_rows rs c) ≡ insert_rows (map f rs) (map f c)
  map_inserts [] c = refl
  map_inserts (r ∷ rs) c = map_inserts rs (insert_row r c) ∙ ap (insert_rows (map f rs)) (map_insert r c)

-- developing row by row
pub developed : (n : Node) (r : ℕ) (rule : Rule) (bound : List Value) (args : List Ground) (c : Config) (e results : List Value) (kids fed next : Config) →
    e ≡ env n r rule bound args → results ≡ map (fill e) rule.results → kids ≡ child_rows n r e 1 rule.children → fed ≡ map (row_fed n results) kids →
    next ≡ map (row_after n (Done r args) results) c →
    insert_rows fed next ≡ develop n r rule bound args c
developed n r rule bound args c e results kids fed next ee er ek ef en =
    ap (λ ks. insert_rows ks next) (ef ∙ ap (map (row_fed n results)) ek)
    ∙ ap (insert_rows (map (row_fed n results) (child_rows n r e 1 rule.children))) (en ∙ sym (map-map (row_fed n results) (done_row n (Done r args)) c))
    ∙ sym (map_inserts (row_fed n results) (rounds_node (length results) (put n results)) (child_rows n r e 1 rule.children) (map (done_row n (Done r args)) c))
    ∙ sym (rounds_map (length results) (row_put (put n results)) (insert_rows (child_rows n r e 1 rule.children) (map (done_row n (Done r args)) c)))
    ∙ ap (λ m. rounds m (map (row_put (put n results))) (insert_rows (child_rows n r e 1 rule.children) (map (done_row n (Done r args)) c))) (ap length er ∙ length-map rule.results (fill e))
    ∙ ap (λ rs. rounds (length rule.results) (map (row_put (put n rs))) (insert_rows (child_rows n r e 1 rule.children) (map (done_row n (Done r args)) c))) er
    ∙ ap (λ e. rounds (length rule.results) (map (row_put (put n (map (fill e) rule.results)))) (insert_rows (child_rows n r e 1 rule.children) (map (done_row n (Done r args)) c))) ee
