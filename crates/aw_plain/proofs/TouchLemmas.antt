-- Rows of one case stand together, and others are not touched.
use Rattle.std.proofs.Common.{◌≡◌, ℕ, zero, suc, ◌<◌, ◌≤◌, List, [], ◌∷◌, ◌++◌, map, length, take, drop, get_or, Bool, true, false, ap, subst, sym, ◌∙◌, refl, arith, inl, inr}
use Rattle.std.proofs.lemmas.Bool.{not-true, not-false, cases_lt}
use Rattle.std.proofs.lemmas.List.{take-append-drop, map-append, nil_from_length}
use Rattle.std.specs.Prelude.{◌⊎◌, not}
use Rattle.std.specs.Cmp.{IsStrictWeakOrder}
use Rattle.std.specs.List.{AllWithin}
use Rattle.std.specs.List.Sorted.{IsPartitionedBy}
use Rattle.aw_list.specs.Members.{Member}
use Rattle.aw_term.specs.Names.{Node, node_lt}
use Rattle.aw_term.specs.Rules.{Value}
use Rattle.aw_term.specs.Configs as Q
use Rattle.aw_term.specs.Configs.{State, Config}
use Rattle.aw_term.specs.WellFormed.{Each}
use Rattle.aw_plain_rows.specs.declared.row.Row.{Row}
use Rattle.aw_plain_rows.specs.RowView.{plain_row, config_of}
use Rattle.aw_plain.specs.Ordered.{IsOrdered}
use Rattle.aw_plain.specs.Cases.{IsSameCase, case_lt, AreApart, AreOutside}
use Rattle.aw_plain.specs.Changes.{row_after}
use Rattle.aw_term.proofs.NodeOrder.{node_order}
use Rattle.aw_term.proofs.StrictOrders.{before_cases}
use Rattle.aw_term.proofs.ByNodeLemmas.{shown_far}
use Rattle.aw_plain.proofs.CaseOrder.{case_order, case_not_before, case_self}
use Rattle.aw_plain.proofs.OrderedLemmas.{at_row}
use Rattle.aw_plain.proofs.CaseLemmas.{other_case, other_row}

-- the rows of cases before a node's stand in front
pub case_starts : (rows : List Row) (n : Node) → IsOrdered (config_of rows) → IsPartitionedBy (λ r. case_lt r.node n) rows
case_starts rows n up i j d le l h = before_cases case_lt case_order n (get_or rows i d).node (get_or rows j d).node _ refl
    (case_not_before (get_or rows j d).node (get_or rows i d).node (shown_far at_row plain_row rows up i j d le l)) h

-- the rows of cases that a node's is not before stand in front
pub case_ends : (rows : List Row) (n : Node) → IsOrdered (config_of rows) → IsPartitionedBy (λ r. not (case_lt n r.node)) rows
case_ends rows n up i j d le l h =
    ap not (case_order.chain n (get_or rows j d).node (get_or rows i d).node (not-true _ h)
    (case_not_before (get_or rows j d).node (get_or rows i d).node (shown_far at_row plain_row rows up i j d le l)))

module _ (lt : Node → Node → Bool) (order : IsStrictWeakOrder lt) (n : Node) where
  -- the rows before it end where those after it begin, or further in front
  meets : (x : Row) (xs : List Row) (i j : ℕ) → i ≤ length (x ∷ xs) → AllWithin (λ r. lt r.node n ≡ true) (x ∷ xs) 0 i →
      AllWithin (λ r. not (lt n r.node) ≡ false) (x ∷ xs) j (length (x ∷ xs)) → (j < i) ⊎ (i ≤ j) → i ≤ j
  meets x xs i j le low high (inr h) = h
  meets x xs i j le low high (inl h) =
      let y = get_or (x ∷ xs) j x in
      let a : lt y.node n ≡ true = low j x (omega arith) h in
      let b : lt n y.node ≡ true = not-false _ (high j x (omega arith) (omega (arith, h, le))) in
      let c : lt n y.node ≡ false = order.one_way y.node n a in
      absurd cc

  pub order_of_ends : (rows : List Row) (i j : ℕ) → i ≤ length rows → AllWithin (λ r. lt r.node n ≡ true) rows 0 i → AllWithin (λ r. not (lt n r.node) ≡ false) rows j (length rows) → i ≤ j
  order_of_ends [] i j le low high = omega (arith, le)
  order_of_ends (x ∷ xs) i j le low high = meets x xs i j le low high (cases_lt j i)

-- row by row
in_front : (P : Q.Row → Type 0) (rows : List Row) (i : ℕ) → AllWithin (λ r. P (plain_row r)) rows 0 i → Each P (take i (config_of rows))
in_front P [] zero all = tt
in_front P [] (suc i) all = tt
in_front P (x ∷ xs) zero all = tt
in_front P (x ∷ xs) (suc i) all = (all 0 x (omega arith) (omega arith), in_front P xs i (λ k d a b. all (suc k) d (omega arith) (omega (arith, b))))

behind : (P : Q.Row → Type 0) (rows : List Row) (i : ℕ) → AllWithin (λ r. P (plain_row r)) rows i (length rows) → Each P (drop i (config_of rows))
behind P [] zero all = tt
behind P [] (suc i) all = tt
behind P (x ∷ xs) zero all = (all 0 x (omega arith) (omega arith), behind P xs 0 (λ k d a b. all (suc k) d (omega arith) (omega (arith, b))))
behind P (x ∷ xs) (suc i) all = behind P xs i (λ k d a b. all (suc k) d (omega (arith, a)) (omega (arith, b)))

self : (n m : Node) → n ≡ m → node_lt n m ≡ true → ⊥
self n m e l =
    let a = subst (λ k. node_lt k m ≡ true) e l in
    let b = node_order.one_way m m a in
    absurd cc

pub outside_node : (n : Node) (rows : List Row) (i j : ℕ) → AllWithin (λ r. node_lt r.node n ≡ true) rows 0 i →
    AllWithin (λ r. not (node_lt n r.node) ≡ false) rows j (length rows) → AreOutside (λ q. n ≡ q.node → ⊥) i j (config_of rows)
outside_node n rows i j low high = (
  in_front _ rows i (λ k d a b e. self (get_or rows k d).node n (sym e) (low k d a b)),
  behind _ rows j (λ k d a b e. self n (get_or rows k d).node e (not-false _ (high k d a b))),
)

pub outside_case : (n : Node) (rows : List Row) (i j : ℕ) → AllWithin (λ r. case_lt r.node n ≡ true) rows 0 i →
    AllWithin (λ r. not (case_lt n r.node) ≡ false) rows j (length rows) → AreOutside (λ q. IsSameCase n q.node → ⊥) i j (config_of rows)
outside_case n rows i j low high = (
  in_front _ rows i (λ k d a b e. case_self (get_or rows k d).node n (sym e.0, sym e.1) (low k d a b)),
  behind _ rows j (λ k d a b e. case_self n (get_or rows k d).node e (not-false _ (high k d a b))),
)

-- what follows for each row of a part
each_taken : (P R : Q.Row → Type 0) (c : Config) (i : ℕ) → ((q : Q.Row) → Member q c → P q → R q) → Each P (take i c) → Each R (take i c)
each_taken P R [] zero f each = tt
each_taken P R [] (suc i) f each = tt
each_taken P R (q ∷ qs) zero f each = tt
each_taken P R (q ∷ qs) (suc i) f each = (f q (inl refl) each.0, each_taken P R qs i (λ p m. f p (inr m)) each.1)

each_dropped : (P R : Q.Row → Type 0) (c : Config) (i : ℕ) → ((q : Q.Row) → Member q c → P q → R q) → Each P (drop i c) → Each R (drop i c)
each_dropped P R [] zero f each = tt
each_dropped P R [] (suc i) f each = tt
each_dropped P R (q ∷ qs) zero f each = (f q (inl refl) each.0, each_dropped P R qs zero (λ p m. f p (inr m)) each.1)
each_dropped P R (q ∷ qs) (suc i) f each = each_dropped P R qs i (λ p m. f p (inr m)) each

outside_too : (P R : Q.Row → Type 0) (i j : ℕ) (c : Config) → ((q : Q.Row) → Member q c → P q → R q) → AreOutside P i j c → AreOutside R i j c
outside_too P R i j c f each = (each_taken P R c i f each.0, each_dropped P R c j f each.1)

-- a rule that gives nothing leaves all rows but those of its node
pub untouched_by_none : (n : Node) (i j : ℕ) (c : Config) (s : State) (results : List Value) → length results ≡ 0 → AreOutside (λ q. n ≡ q.node → ⊥) i
    j c → AreOutside (λ q. row_after n s results q ≡ q) i j c
untouched_by_none n i j c s results e each =
    outside_too _ _ i j c (λ q m other. subst (λ ts. row_after n s ts q ≡ q) (sym (nil_from_length results e)) (other_row n s q other)) each

-- a rule leaves the rows of other cases
pub untouched_cases : (n : Node) (i j : ℕ) (c : Config) (s : State) (results : List Value) → AreApart c → AreOutside (λ q. IsSameCase n q.node → ⊥) i
    j c → AreOutside (λ q. row_after n s results q ≡ q) i j c
untouched_cases n i j c s results apart each =
    outside_too _ _ i j c (λ q m other. other_case n s results q (apart q m) other) each

-- rows that stay are mapped to themselves
pub stays : (f : Q.Row → Q.Row) (c : Config) → Each (λ q. f q ≡ q) c → map f c ≡ c
stays f [] each = refl
stays f (q ∷ qs) each =
    let a = each.0 in
    let b = stays f qs each.1 in
    λ i. a i ∷ b i

pub stay_in_front : (f : Q.Row → Q.Row) (c : Config) (i : ℕ) → Each (λ q. f q ≡ q) (take i c) → c ≡ map f (take i c) ++ drop i c
stay_in_front f c i each = sym (ap (λ xs. xs ++ drop i c) (stays f (take i c) each) ∙ take-append-drop i c)

pub stay_behind : (f : Q.Row → Q.Row) (c : Config) (i : ℕ) → Each (λ q. f q ≡ q) (drop i c) → map f (take i c) ++ drop i c ≡ map f c
stay_behind f c i each =
    ap (λ xs. map f (take i c) ++ xs) (sym (stays f (drop i c) each)) ∙ sym (map-append f (take i c) (drop i c)) ∙ ap (map f) (take-append-drop i c)
