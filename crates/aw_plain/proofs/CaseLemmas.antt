-- What a choice does to one case leaves the rows of others as they are.
use Rattle.std.proofs.Common.{◌≡◌, ℕ, zero, suc, ◌+◌, Bool, true, false, cond, List, [], ◌∷◌, map, length, slice_get, refl, sym, ap, ◌∙◌, subst, inl, inr}
use Rattle.aw_list.specs.Members.{Member}
use Rattle.aw_list.proofs.Members.{never, member_unmap}
use Rattle.aw_term.specs.Trees.{Leaf, Made, Trees, Nil, More, In, Ins, bind, binds}
use Rattle.aw_term.specs.Names.{Node, Ref, node_eq, below, result, root}
use Rattle.aw_term.specs.Rules.{Term, Ground, Value, Child, Rule, Grammar, get, upto}
use Rattle.aw_term.specs.Matching.{Yes, match_all}
use Rattle.aw_term.specs.Configs.{State, Done, Row, Config, env, nothing, fill, child_rows, insert_row, insert_rows, row_of, done_row, result_at, put, row_put, rounds, develop}
use Rattle.aw_term.specs.Choices.{Choice, Start, Develop, Outcome, Refused, Starts, Takes, gives_of, start_row, outcome, taken, or_same, after}
use Rattle.aw_name.specs.SameNodes.{node_is}
use Rattle.aw_term.proofs.RowParts.{rounds_node}
use Rattle.aw_accept.specs.Acyclic.{Stands}
use Rattle.aw_accept.proofs.Binding.{In-bind}
use Rattle.aw_accept.proofs.Sources.{Source_at, env_enters, entered}
use Rattle.aw_accept.proofs.ConfigLemmas.{Member-insert_row, Member-insert_rows, child_row, Member-child_rows, Member-rounds, rounds-inherited-list}
use Rattle.aw_accept.proofs.ConfigLemmas.{rounds-results-list, Chain, end, link, In-rounds, In-put, get-filled, done_row-cases}
use Rattle.aw_accept.proofs.Developing.{Item-at}
use Rattle.aw_accept.proofs.UndividedRuns.{decode_on}
use Rattle.aw_plain_rows.specs.Rounds.{row_fed}
use Rattle.aw_plain.specs.Changes.{row_after}
use Rattle.aw_plain.specs.Cases.{IsSameCase, KeepsToCase, AreApart}

one_case : (a b c : Node) → IsSameCase a b → IsSameCase b c → IsSameCase a c
one_case a b c p q = (p.0 ∙ q.0, p.1 ∙ q.1)

case_of : (n m : Node) → n ≡ m → IsSameCase n m
case_of n m e = (ap (λ (n : Node). n.start) e, ap (λ (n : Node). n.case) e)

hole_of : (h : Ref) (n : Node) (j : ℕ) → h ≡ result n j → IsSameCase n h.node
hole_of h n j e = case_of n h.node (ap (λ (h : Ref). h.node) (sym e))

in_holes : (n : Node) (m : ℕ) (t : Value) (h : Ref) → Member t (map (λ j. Leaf (result n j)) (upto 1 m)) → In h t → IsSameCase n h.node
in_holes n m t h held w =
    let (j, o, e) = member_unmap (λ j. Leaf (result n j)) t (upto 1 m) held in
    hole_of h n j (subst (In h) e w)

-- a rule that is taken on the node of a row
module _ (q : Row) (ri : ℕ) (r : Rule) (bs : List Value) (args : List Ground) (bound : match_all 1 r.patterns q.inherited ≡ Yes bs) (given : length args ≡ r.params) (keeps : KeepsToCase q) where
  abbrev e : List Value
  e = env q.node ri r bs args

  abbrev sigma : Ref → Value
  sigma = put q.node (map (fill e) r.results)

  by_parts : (k : ℕ) (b : Bool) (n : ℕ) (h : Ref) → Source_at q ri r k b n h → IsSameCase q.node h.node
  by_parts zero false i h (t, a, b) = keeps h (inl (t, Item-at q.inherited i t a, b))
  by_parts (suc k) false i h s = never s
  by_parts zero true j h s = never s
  by_parts (suc k) true l h (d, a, b0, b, f) = hole_of h (below q.node ri (suc k)) l f

  in_term : (t : Term) (h : Ref) → In h (fill e t) → IsSameCase q.node h.node
  in_term t h w =
      let (v, x, y) = In-bind (get nothing e) h t w in
      let (u, b, s) = entered q ri r _ _ v h (env_enters q ri r bs args bound given) y in
      by_parts u.child u.result u.number h s

  in_link : (a b : Ref) → In b (sigma a) → IsSameCase a.node b.node
  in_link a b x =
      elim (In-put q.node (map (fill e) r.results) a b x) [
        | inl f ↦ case_of a.node b.node (ap (λ (h : Ref). h.node) (sym f))
        | inr g ↦ (let (t, k, y) = get-filled (fill e) r.results g.0 b g.2 in
            one_case a.node q.node b.node (case_of a.node q.node (ap (λ (h : Ref). h.node) g.1)) (in_term t b y))
      ]

  in_chain : {m : ℕ} {a b : Ref} → Chain sigma m a b → IsSameCase a.node b.node
  in_chain end = (refl, refl)
  in_chain {b = b} (link {a = a} {b = c} x rest) = one_case a.node c.node b.node (in_link a c x) (in_chain rest)

  rounds_keep : (m : ℕ) (z : Row) → KeepsToCase z → KeepsToCase (rounds m (row_put sigma) z)
  rounds_keep m z kept h stands =
      subst (λ n. IsSameCase n h.node) (sym (rounds_node m sigma z))
      (elim stands [
        | inl (t, n, w) ↦
            (let (t0, n0, f) = Member-rounds m (bind sigma) t z.inherited (subst (λ ts. Member t ts) (rounds-inherited-list m sigma z) n) in
            let (a, x, ch) = In-rounds m sigma h t0 (subst (In h) f w) in
            one_case z.node a.node h.node (kept a (inl (t0, n0, x))) (in_chain ch))
        | inr (t, n, w) ↦
            (let (t0, n0, f) = Member-rounds m (bind sigma) t z.results (subst (λ ts. Member t ts) (rounds-results-list m sigma z) n) in
            let (a, x, ch) = In-rounds m sigma h t0 (subst (In h) f w) in
            one_case z.node a.node h.node (kept a (inr (t0, n0, x))) (in_chain ch))
      ])

  child_keeps : (k : ℕ) (c : Child) → KeepsToCase (child_row q.node ri e k c)
  child_keeps k c h stands =
      elim stands [
        | inl (t, n, w) ↦ (let (arg, o, f) = member_unmap (fill e) t c.args n in in_term arg h (subst (In h) f w))
        | inr (t, n, w) ↦ in_holes (below q.node ri k) c.outs t h n w
      ]

  done_keeps : (s : State) (p : Row) → KeepsToCase p → KeepsToCase (done_row q.node s p)
  done_keeps s p kept =
      elim (done_row-cases q.node s p) [
        | inl x ↦ subst KeepsToCase (sym x.1) kept
        | inr x ↦ subst KeepsToCase (sym x) kept
      ]

  developed_apart : (c : Config) → AreApart c → AreApart (develop q.node ri r bs args c)
  developed_apart c apart y m =
      let (z, mz, f) = Member-rounds (length r.results) (row_put sigma) y (insert_rows (child_rows q.node ri e 1 r.children) (map (done_row q.node (Done ri args)) c)) m in
      subst KeepsToCase (sym f) (rounds_keep (length r.results) z
      (elim (Member-insert_rows z (child_rows q.node ri e 1 r.children) (map (done_row q.node (Done ri args)) c) mz) [
        | inl o ↦ (let (k, d, g, h) = Member-child_rows z q.node ri e 1 r.children o in subst KeepsToCase (sym h) (child_keeps (1 + k) d))
        | inr o ↦ (let (p, mp, g) = member_unmap (done_row q.node (Done ri args)) z c o in subst KeepsToCase (sym g) (done_keeps (Done ri args) p (apart p mp)))
      ]))

start_apart : (g : Grammar) (c : Config) (s k : ℕ) → AreApart c → AreApart (insert_row (start_row g s k) c)
start_apart g c s k apart y m =
    elim (Member-insert_row y (start_row g s k) c m) [
      | inl e ↦ subst KeepsToCase (sym e) (λ h stands. elim stands [
        | inl (t, n, w) ↦ never n
        | inr (t, n, w) ↦ in_holes (root s k) (gives_of (slice_get g.sorts s)) t h n w
      ])
      | inr o ↦ apart y o
    ]

apart_taken : (g : Grammar) (c : Config) (x : Choice) (o : Outcome Value Ref) → outcome g c x ≡ o → AreApart c → AreApart (or_same c (taken g c x o))
apart_taken g c x (Refused a) e apart = apart
apart_taken g c (Start s k) Starts e apart = start_apart g c s k apart
apart_taken g c (Start s k) (Takes rule bs) e apart = apart
apart_taken g c (Develop n ri args) Starts e apart = apart
apart_taken g c (Develop n ri args) (Takes rule bs) e apart =
    let D = decode_on g c (row_of n c) n ri args rule bs refl e in
    subst (λ m. AreApart (develop m ri rule bs args c)) D.node (developed_apart D.row ri rule bs args D.bound D.given (apart D.row D.held) c apart)

-- a choice keeps the cases apart
pub apart_after : (g : Grammar) (c : Config) (x : Choice) → AreApart c → AreApart (after g c x)
apart_after g c x apart = apart_taken g c x (outcome g c x) refl apart

-- what has none of the holes stays
mutual
  bind_same : (f : Ref → Value) (t : Value) → ((h : Ref) → In h t → f h ≡ Leaf h) → bind f t ≡ t
  bind_same f (Leaf h) same = same h refl
  bind_same f (Made k ts) same = ap (Made k) (binds_same f ts same)

  binds_same : (f : Ref → Value) (ts : Trees Ref) → ((h : Ref) → Ins h ts → f h ≡ Leaf h) → binds f ts ≡ ts
  binds_same f Nil same = refl
  binds_same f (More t ts) same =
      let a = bind_same f t (λ h w. same h (inl w)) in
      let b = binds_same f ts (λ h w. same h (inr w)) in
      λ i. More (a i) (b i)

map_same : {A : Type 0} (f : A → A) (xs : List A) → ((x : A) → Member x xs → f x ≡ x) → map f xs ≡ xs
map_same f [] same = refl
map_same f (x ∷ xs) same =
    let a = same x (inl refl) in
    let b = map_same f xs (λ y m. same y (inr m)) in
    λ i. a i ∷ b i

rounds_same : {A : Type 0} (m : ℕ) (f : A → A) (x : A) → f x ≡ x → rounds m f x ≡ x
rounds_same zero f x e = refl
rounds_same (suc m) f x e = ap (rounds m f) e ∙ rounds_same m f x e

other_node : (n m : Node) (b : Bool) → node_eq n m ≡ b → (n ≡ m → ⊥) → b ≡ false
other_node n m true e differ = absurd (differ (node_is n m e))
other_node n m false e differ = refl

done_other : (n : Node) (s : State) (q : Row) → (n ≡ q.node → ⊥) → done_row n s q ≡ q
done_other n s q differ = ap (λ b. cond b (record q { state = s }) q) (other_node n q.node _ refl differ)

put_other : (n : Node) (results : List Value) (h : Ref) → (n ≡ h.node → ⊥) → put n results h ≡ Leaf h
put_other n results h differ = ap (λ b. cond b (result_at results h h.slot) (Leaf h)) (other_node n h.node _ refl differ)

row_put_other : (n : Node) (results : List Value) (q : Row) → ((h : Ref) → Stands h q → n ≡ h.node → ⊥) → row_put (put n results) q ≡ q
row_put_other n results q differ =
    let a = map_same (bind (put n results)) q.inherited (λ t m. bind_same (put n results) t (λ h w. put_other n results h (differ h (inl (t, m, w))))) in
    let b = map_same (bind (put n results)) q.results (λ t m. bind_same (put n results) t (λ h w. put_other n results h (differ h (inr (t, m, w))))) in
    λ i. record q { inherited = a i; results = b i }

-- a rule that is taken in another case leaves the row as it is
pub other_case : (n : Node) (s : State) (results : List Value) (q : Row) → KeepsToCase q → (IsSameCase n q.node → ⊥) → row_after n s results q ≡ q
other_case n s results q keeps other =
    ap (row_fed n results) (done_other n s q (λ e. other (case_of n q.node e)))
    ∙ rounds_same (length results) (row_put (put n results)) q
    (row_put_other n results q (λ h stands e. other (let c = keeps h stands in let d = case_of n h.node e in (d.0 ∙ sym c.0, d.1 ∙ sym c.1))))

-- a rule that gives nothing changes the row of its node alone
pub other_row : (n : Node) (s : State) (q : Row) → (n ≡ q.node → ⊥) → row_after n s [] q ≡ q
other_row n s q differ = done_other n s q differ
