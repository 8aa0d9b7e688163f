-- Members of configurations after a choice.
use Rattle.std.proofs.Common.{◌≡◌, ℕ, zero, suc, ◌+◌, ◌<◌, ◌≤◌, Bool, true, false, cond, List, [], ◌∷◌, map, length, Some, slice_get, refl, sym, ap, ◌∙◌, subst, inl, inr, arith}
use Rattle.std.specs.Prelude.{◌⊎◌}
use Rattle.aw_term.specs.Trees.{Leaf, In, bind}
use Rattle.aw_term.specs.Names.{Node, Ref, Slot, Result, Part, Step, node_eq, node_lt, below, result}
use Rattle.aw_term.specs.Rules.{Term, Value, Child, nth, upto}
use Rattle.aw_term.specs.Configs.{State, Pending, Row, Config, holes, nothing, fill, child_rows, insert_row, insert_rows, done_row, result_at, put, row_put, rounds}
use Rattle.aw_iograph.specs.Occurrences.{item}
use Rattle.std.proofs.lemmas.Bool.{cases_lt}
use Rattle.std.proofs.lemmas.List.{length-map, same_from_push}
use Rattle.aw_list.specs.Members.{Member}
use Rattle.aw_list.proofs.Members.{never, member_map, member_unmap, got_unmap}
use Rattle.aw_name.specs.SameNodes.{node_is}
use Rattle.aw_term.proofs.Gets.{member_upto}
use Rattle.aw_accept.proofs.Binding.{In-bind}

pub below-child : (n : Node) (r k l : ℕ) → below n r k ≡ below n r l → k ≡ l
below-child n r k l e = ap (λ (s : Step). s.child) (same_from_push n.steps n.steps (record { rule = r; child = k }) (record { rule = r; child = l }) (ap (λ (m : Node). m.steps) e)).1

pub insert_cases : {A : Type 0} (b : Bool) (y r q : A) (qs zs : List A) → (Member y zs → (y ≡ r) ⊎ Member y qs) → Member y (cond b (r ∷ q ∷ qs) (q ∷ zs)) → (y ≡ r) ⊎ Member y (q ∷ qs)
insert_cases true y r q qs zs f (inl e) = inl e
insert_cases true y r q qs zs f (inr m) = inr m
insert_cases false y r q qs zs f (inl e) = inr (inl e)
insert_cases false y r q qs zs f (inr m) = elim (f m) [ inl e ↦ inl e | inr n ↦ inr (inr n) ]

pub Member-insert_row : (y r : Row) (c : Config) → Member y (insert_row r c) → (y ≡ r) ⊎ Member y c
Member-insert_row y r [] (inl e) = inl e
Member-insert_row y r [] (inr m) = inr m
Member-insert_row y r (q ∷ qs) m = insert_cases (node_lt r.node q.node) y r q qs (insert_row r qs) (Member-insert_row y r qs) m

pub Member-insert_rows : (y : Row) (rs : List Row) (c : Config) → Member y (insert_rows rs c) → Member y rs ⊎ Member y c
Member-insert_rows y [] c m = inr m
Member-insert_rows y (r ∷ rs) c m =
    elim (Member-insert_rows y rs (insert_row r c) m) [ inl n ↦ inl (inr n) | inr n ↦ elim (Member-insert_row y r c n) [ inl e ↦ inl (inl e) | inr o ↦ inr o ] ]

abbrev pub child_row : Node → ℕ → List Value → ℕ → Child → Row
child_row n r e k c = record { node = below n r k; sort = c.sort; inherited = map (fill e) c.args; results = holes (below n r k) c.outs; state = Pending }

pub Member-child_rows : (y : Row) (n : Node) (r : ℕ) (e : List Value) (k : ℕ) (cs : List Child) → Member y (child_rows n r e k cs) → (j : ℕ)
    × (c : Child) × (slice_get cs j ≡ Some c) × (y ≡ child_row n r e (k + j) c)
Member-child_rows y n r e k [] m = never m
Member-child_rows y n r e k (c ∷ cs) (inl eq) = let z : k ≡ k + 0 = omega arith in (0, c, refl, eq ∙ ap (λ k'. child_row n r e k' c) z)
Member-child_rows y n r e k (c ∷ cs) (inr m) =
    let (j, d, f, g) = Member-child_rows y n r e (suc k) cs m in
    let z : suc k + j ≡ k + suc j = omega arith in
    (suc j, d, f, g ∙ ap (λ k'. child_row n r e k' d) z)

pub Member-rounds : {A : Type 0} (m : ℕ) (f : A → A) (y : A) (xs : List A) → Member y (rounds m (map f) xs) → (x : A) × Member x xs × (y ≡ rounds m f x)
Member-rounds zero f y xs w = (y, w, refl)
Member-rounds (suc m) f y xs w =
    let (z, n, e) = Member-rounds m f y (map f xs) w in
    let (x, o, g) = member_unmap f z xs n in
    (x, o, e ∙ ap (rounds m f) g)

pub rounds-sort : (m : ℕ) (f : Ref → Value) (q : Row) → (rounds m (row_put f) q).sort ≡ q.sort
rounds-sort zero f q = refl
rounds-sort (suc m) f q = rounds-sort m f (row_put f q)

pub rounds-state : (m : ℕ) (f : Ref → Value) (q : Row) → (rounds m (row_put f) q).state ≡ q.state
rounds-state zero f q = refl
rounds-state (suc m) f q = rounds-state m f (row_put f q)

pub item-mapped : {A B : Type 0} (f : A → B) (xs : List A) (i : ℕ) (y : B) → item (map f xs) i ≡ Some y → (x : A) × (item xs i ≡ Some x) × (y ≡ f x)
item-mapped f xs zero y e = absurd cc
item-mapped f xs (suc i) y e = got_unmap f xs i y e

pub rounds-inherited : (m : ℕ) (f : Ref → Value) (q : Row) (i : ℕ) (t : Value) → item ((rounds m (row_put f) q).inherited) i ≡ Some t → (s : Value)
    × (item q.inherited i ≡ Some s) × (t ≡ rounds m (bind f) s)
rounds-inherited zero f q i t e = (t, e, refl)
rounds-inherited (suc m) f q i t e =
    let (s, g, h) = rounds-inherited m f (row_put f q) i t e in
    let (u, k, l) = item-mapped (bind f) q.inherited i s g in
    (u, k, h ∙ ap (rounds m (bind f)) l)

-- a hole that is put in, so many times
pub data Chain (f : Ref → Value) : ℕ → Ref → Ref → Type 0 where
  end : {h : Ref} → Chain f 0 h h
  link : {m : ℕ} {a b h : Ref} → In b (f a) → Chain f m b h → Chain f (suc m) a h

pub In-rounds : (m : ℕ) (f : Ref → Value) (h : Ref) (t : Value) → In h (rounds m (bind f) t) → (a : Ref) × In a t × Chain f m a h
In-rounds zero f h t w = (h, w, end)
In-rounds (suc m) f h t w =
    let (b, x, ch) = In-rounds m f h (bind f t) w in
    let (a, y, z) = In-bind f b t x in
    (a, y, link z ch)

slot_cases : (n : Node) (ts : List Value) (a h : Ref) (s : Slot) → a.slot ≡ s → a.node ≡ n → In h (result_at ts a s) → (h ≡ a) ⊎ ((j : ℕ) × (a ≡ result n j) × In h (nth nothing ts j))
slot_cases n ts a h (Result j) e f w = inr (j, (λ i. record { node = f i; slot = e i }), w)
slot_cases n ts a h (Part k) e f w = inl w

put_cases : (b : Bool) (n : Node) (ts : List Value) (a h : Ref) → node_eq n a.node ≡ b → In h (cond b (result_at ts a a.slot) (Leaf a)) → (h ≡ a)
    ⊎ ((j : ℕ) × (a ≡ result n j) × In h (nth nothing ts j))
put_cases true n ts a h e w = slot_cases n ts a h a.slot refl (sym (node_is n a.node e)) w
put_cases false n ts a h e w = inl w

pub In-put : (n : Node) (ts : List Value) (a h : Ref) → In h (put n ts a) → (h ≡ a) ⊎ ((j : ℕ) × (a ≡ result n j) × In h (nth nothing ts j))
In-put n ts a h w = put_cases (node_eq n a.node) n ts a h refl w

pub get-filled : (f : Term → Value) (ts : List Term) (j : ℕ) (h : Ref) → In h (nth nothing (map f ts) j) → (t : Term) × (item ts j ≡ Some t) × In h (f t)
get-filled f ts zero h w = never w
get-filled f [] (suc j) h w = never w
get-filled f (t ∷ ts) (suc zero) h w = (t, refl, w)
get-filled f (t ∷ ts) (suc (suc j)) h w = get-filled f ts (suc j) h w

-- the rows before the rounds
done_cases : (b : Bool) (n : Node) (s : State) (q : Row) → node_eq n q.node ≡ b → cond b (record q { state = s }) q ≡ done_row n s q →
    ((n ≡ q.node) × (done_row n s q ≡ record q { state = s })) ⊎ (done_row n s q ≡ q)
done_cases true n s q e f = inl (node_is n q.node e, sym f)
done_cases false n s q e f = inr (sym f)

pub done_row-cases : (n : Node) (s : State) (q : Row) → ((n ≡ q.node) × (done_row n s q ≡ record q { state = s })) ⊎ (done_row n s q ≡ q)
done_row-cases n s q = done_cases (node_eq n q.node) n s q refl refl

-- what does not speak of the state stays
pub done_row-same : {B : Type 0} (f : Row → B) (n : Node) (s : State) (q : Row) → f (record q { state = s }) ≡ f q → f (done_row n s q) ≡ f q
done_row-same f n s q e = elim (done_row-cases n s q) [ inl x ↦ ap f x.1 ∙ e | inr x ↦ ap f x ]

pub inserted_cases : {A : Type 0} (b : Bool) (y r q : A) (qs zs : List A) → ((y ≡ r) ⊎ Member y qs → Member y zs) → (y ≡ r) ⊎ Member y (q ∷ qs) → Member y (cond b (r ∷ q ∷ qs) (q ∷ zs))
inserted_cases true y r q qs zs f (inl e) = inl e
inserted_cases true y r q qs zs f (inr m) = inr m
inserted_cases false y r q qs zs f (inl e) = inr (f (inl e))
inserted_cases false y r q qs zs f (inr (inl e)) = inl e
inserted_cases false y r q qs zs f (inr (inr m)) = inr (f (inr m))

pub Member-inserted : (y r : Row) (c : Config) → (y ≡ r) ⊎ Member y c → Member y (insert_row r c)
Member-inserted y r [] m = m
Member-inserted y r (q ∷ qs) m = inserted_cases (node_lt r.node q.node) y r q qs (insert_row r qs) (Member-inserted y r qs) m

pub Member-all_inserted : (y : Row) (rs : List Row) (c : Config) → Member y rs ⊎ Member y c → Member y (insert_rows rs c)
Member-all_inserted y [] c (inl m) = never m
Member-all_inserted y [] c (inr m) = m
Member-all_inserted y (r ∷ rs) c (inl (inl e)) = Member-all_inserted y rs (insert_row r c) (inr (Member-inserted y r c (inl e)))
Member-all_inserted y (r ∷ rs) c (inl (inr m)) = Member-all_inserted y rs (insert_row r c) (inl m)
Member-all_inserted y (r ∷ rs) c (inr m) = Member-all_inserted y rs (insert_row r c) (inr (Member-inserted y r c (inr m)))

pub Member-made_children : (n : Node) (r : ℕ) (e : List Value) (k : ℕ) (cs : List Child) (j : ℕ) (c : Child) → slice_get cs j ≡ Some c → Member (child_row n r e (k + j) c) (child_rows n r e k cs)
Member-made_children n r e k [] j c f = absurd cc
Member-made_children n r e k (d ∷ cs) zero c f = let z : k + 0 ≡ k = omega arith in let g : c ≡ d = cc in inl (λ i. child_row n r e (z i) (g i))
Member-made_children n r e k (d ∷ cs) (suc j) c f =
    let z : suc k + j ≡ k + suc j = omega arith in
    inr (subst (λ i. Member (child_row n r e i c) (child_rows n r e (suc k) cs)) z (Member-made_children n r e (suc k) cs j c f))

pub Member-rounded : {A : Type 0} (m : ℕ) (f : A → A) (x : A) (xs : List A) → Member x xs → Member (rounds m f x) (rounds m (map f) xs)
Member-rounded zero f x xs w = w
Member-rounded (suc m) f x xs w = Member-rounded m f (f x) (map f xs) (member_map f x xs w)

pub length-upto : (i m : ℕ) → length (upto i m) ≡ m
length-upto i zero = refl
length-upto i (suc m) = ap suc (length-upto (suc i) m)

pub Member-upto : (i m j : ℕ) → i ≤ j → j < i + m → Member j (upto i m)
Member-upto i zero j le lt = absurd (omega arith)
Member-upto i (suc m) j le lt =
    elim (cases_lt i j) [ inl a ↦ inr (Member-upto (suc i) m j a (omega arith)) | inr a ↦ inl (omega arith) ]

pub upto-bound : (i m j : ℕ) → Member j (upto i m) → j < i + m
upto-bound i m j w = let (k, lt, e) = member_upto j i m w in omega arith

pub rounds-results-length : (m : ℕ) (f : Ref → Value) (q : Row) → length (rounds m (row_put f) q).results ≡ length q.results
rounds-results-length zero f q = refl
rounds-results-length (suc m) f q = rounds-results-length m f (row_put f q) ∙ length-map q.results (bind f)

pub rounds-inherited-list : (m : ℕ) (f : Ref → Value) (q : Row) → (rounds m (row_put f) q).inherited ≡ rounds m (map (bind f)) q.inherited
rounds-inherited-list zero f q = refl
rounds-inherited-list (suc m) f q = rounds-inherited-list m f (row_put f q)

pub rounds-results-list : (m : ℕ) (f : Ref → Value) (q : Row) → (rounds m (row_put f) q).results ≡ rounds m (map (bind f)) q.results
rounds-results-list zero f q = refl
rounds-results-list (suc m) f q = rounds-results-list m f (row_put f q)

pub upto-low : (i m j : ℕ) → Member j (upto i m) → i ≤ j
upto-low i m j w = let (k, lt, e) = member_upto j i m w in omega arith
