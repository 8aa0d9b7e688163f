-- A taken rule keeps that no hole needs itself.
use Rattle.std.proofs.Common.{◌≡◌, ℕ, zero, suc, ◌+◌, ◌<◌, ◌≤◌, Bool, true, false, cond, List, [], ◌∷◌, map, length, Some, slice_get, refl, sym, ap, ◌∙◌, subst, inl, inr, arith}
use Rattle.std.specs.Prelude.{◌⊎◌, option_and_then}
use Rattle.std.proofs.lemmas.List.{length-map}
use Rattle.aw_list.specs.Members.{Member}
use Rattle.aw_list.proofs.Members.{never, member_map, member_unmap, member_got}
use Rattle.aw_term.specs.Trees.{Never, Leaf, In, bind}
use Rattle.aw_term.specs.Names.{Node, Ref, Slot, Result, Part, below, result}
use Rattle.aw_term.specs.Rules.{Term, Ground, Value, Child, Rule, get, nth, upto}
use Rattle.aw_term.specs.Matching.{Yes, match_all}
use Rattle.aw_term.specs.Configs.{Pending, Done, Row, Config, env, nothing, fill, child_rows, insert_rows, done_row, put, row_put, rounds, develop}
use Rattle.aw_term.specs.WellFormed.{Each, Later}
use Rattle.aw_iograph.specs.declared.occ.Occ.{Occ}
use Rattle.aw_iograph.specs.Graphs.{Plus, step, more}
use Rattle.aw_iograph.specs.Occurrences.{inherited, item, term_at}
use Rattle.aw_iograph.specs.Dependence.{Edge, text, call}
use Rattle.aw_accept.specs.Acyclic.{Needs, need, Stands, IsWhole, IsAcyclic}
use Rattle.aw_accept.proofs.Spots.{Spot, Inh, Out, occ_of, Move}
use Rattle.aw_accept.proofs.Contraction.{Vertex, H, O, Way, outer, enter, inner, leave, contract, within}
use Rattle.aw_accept.proofs.Binding.{In-bind}
use Rattle.aw_accept.proofs.Sources.{Source, Source_at, env_enters, entered}
use Rattle.aw_accept.proofs.ConfigLemmas.{below-child, child_row, Member-insert_rows, Member-child_rows, Member-rounds, rounds-sort, rounds-state}
use Rattle.aw_accept.proofs.ConfigLemmas.{item-mapped, rounds-inherited, Chain, end, link, In-rounds, In-put, get-filled, done_row-cases}
use Rattle.aw_accept.proofs.ConfigLemmas.{Member-all_inserted, Member-made_children, Member-rounded, length-upto, Member-upto, upto-bound, upto-low}
use Rattle.aw_accept.proofs.ConfigLemmas.{rounds-results-length, rounds-inherited-list, rounds-results-list, done_row-same}
use Rattle.aw_accept.proofs.Pigeonholes.{pigeon}
use Rattle.aw_name.specs.SameNodes.{node_self}
use Rattle.aw_term.proofs.RowParts.{rounds_node}
use Rattle.aw_term.proofs.Eaches.{each_map}
use Rattle.aw_iograph.proofs.Reaching.{join}

pub Item-at : {A : Type 0} (xs : List A) (i : ℕ) (x : A) → item xs i ≡ Some x → Member x xs
Item-at xs zero x e = absurd cc
Item-at xs (suc i) x e = member_got xs i x e

-- node q is developed by rule r, its ri-th, in the configuration c
pub record Taking (rel : ℕ → ℕ → ℕ → Type 0) (c : Config) (q : Row) (ri : ℕ) (r : Rule) (bs : List Value) (args : List Ground) : Type 0 where
  pub held : Member q c
  pub open_ : q.state ≡ Pending
  pub sort : r.sort ≡ q.sort
  pub bound : match_all 1 r.patterns q.inherited ≡ Yes bs
  pub given : length args ≡ r.params
  pub many : length q.results ≡ length r.results
  pub closed : (i j : ℕ) → Plus (Move r rel) (Inh 0 i) (Out 0 j) → rel q.sort i j
  pub no_inner : (o : Spot) → Plus (Move r rel) o o → Never
  pub whole : IsWhole c
  pub no_circle : (h : Ref) → Plus (Needs rel c) h h → Never
  pub fresh : (p : Row) → Member p c → (k : ℕ) → p.node ≡ below q.node ri k → Never
  pub apart : (p : Row) → Member p c → p.node ≡ q.node → p ≡ q

module _ (rel : ℕ → ℕ → ℕ → Type 0) (c : Config) (q : Row) (ri : ℕ) (r : Rule) (bs : List Value) (args : List Ground) (T : Taking rel c q ri r bs args) where
  abbrev pub W : Vertex → Vertex → Type 0
  W = Way r rel c q

  abbrev pub e : List Value
  e = env q.node ri r bs args

  pub data At : Ref → Vertex → Type 0 where
    old : {h : Ref} → (p : Row) → (j : ℕ) → Member p c → h ≡ result p.node j → At h (H h)
    child : {h : Ref} → (k l : ℕ) → h ≡ result (below q.node ri (suc k)) l → At h (O (Out (suc k) l))

  pub node_of : {h : Ref} {n : Node} {j : ℕ} → h ≡ result n j → h.node ≡ n
  node_of e = ap (λ (h : Ref). h.node) e

  number : Slot → ℕ
  number (Result j) = j
  number (Part k) = k

  At-one : {h : Ref} {v w : Vertex} → At h v → At h w → v ≡ w
  unfolding number
  At-one (old p j m e) (old p' j' m' e') = refl
  At-one (old p j m e) (child k l e') = never (T.fresh p m (suc k) (sym (node_of e) ∙ node_of e'))
  At-one (child k l e') (old p j m e) = never (T.fresh p m (suc k) (sym (node_of e) ∙ node_of e'))
  At-one (child k l e) (child k' l' e') =
      let a = below-child q.node ri (suc k) (suc k') (sym (node_of e) ∙ node_of e') in
      let b = ap (λ (h : Ref). number h.slot) (sym e ∙ e') in
      λ i. O (Out (a i) (b i))

  abbrev Go : Vertex → Ref → Type 0
  Go v h = (w : Vertex) × At h w × Plus W v w

  by_parts : {o : Spot} {h : Ref} → (k : ℕ) (b : Bool) (n : ℕ) → Edge r rel (record { child = k; result = b; number = n }) (occ_of o) → Source_at q ri r k b n h → Go (O o) h
  by_parts zero false i x (t, a, b) =
      let (p, pj, m, s, n, l0, l) = T.whole q T.held _ (inl (t, Item-at q.inherited i t a, b)) in
      let go : W (O _) (O (Inh 0 i)) = inner x in
      (H _, old p pj m n, more go (step (leave i t a b)))
  by_parts (suc k) false i x s = never s
  by_parts zero true j x s = never s
  by_parts (suc k) true l x (d, a, b0, b, f) =
      let go : W (O _) (O (Out (suc k) l)) = inner x in
      (O (Out (suc k) l), child k l f, step go)

  by_source : {o : Spot} {h : Ref} → (u : Occ) → Edge r rel u (occ_of o) → Source q ri r u h → Go (O o) h
  by_source u x s = by_parts u.child u.result u.number x s

  value_walk : (o : Spot) (t : Term) (h : Ref) → term_at r (occ_of o) ≡ Some t → In h (fill e t) → Go (O o) h
  value_walk o t h a w =
      let (v, x, y) = In-bind (get nothing (env q.node ri r bs args)) h t w in
      let (u, b, s) = entered q ri r _ _ v h (env_enters q ri r bs args T.bound T.given) y in
      by_source u (text v t b a x) s

  abbrev pub sigma : Ref → Value
  sigma = put q.node (map (fill e) r.results)

  result_go : {v : Vertex} {a b : Ref} → (j : ℕ) → a ≡ result q.node j → In b (nth nothing (map (fill e) r.results) j) → Plus W v (H a) → Go v b
  result_go {v} {a} {b} j n x w =
      let (t, f, y) = get-filled (fill e) r.results j b x in
      let (u, z, ww) = value_walk (Out 0 j) t b f y in
      let w' = subst (λ h. Plus W v (H h)) n w in
      (u, z, join w' (more (enter j) ww))

  link_go : {v : Vertex} {a b : Ref} → In b (sigma a) → Go v a → Go v b
  link_go {v} {a} {b} x (u, z, w) =
      elim (In-put q.node (map (fill e) r.results) a b x) [
        | inl f ↦ (u, subst (λ h. At h u) (sym f) z, w)
        | inr g ↦ result_go g.0 g.1 g.2 (subst (Plus W v) (At-one z (old q g.0 T.held g.1)) w)
      ]

  chain_go : {v : Vertex} {m : ℕ} {a b : Ref} → Chain sigma m a b → Go v a → Go v b
  chain_go end g = g
  chain_go (link x ch) g = chain_go ch (link_go x g)

  abbrev pub added : Config
  added = insert_rows (child_rows q.node ri e 1 r.children) (map (done_row q.node (Done ri args)) c)

  -- the rows before the rounds
  abbrev pub FromChild : Row → Type 0
  FromChild y = (k : ℕ) × (d : Child) × (slice_get r.children k ≡ Some d) × (y ≡ child_row q.node ri e (suc k) d)

  pending_old : (y p : Row) → Member p c → y ≡ done_row q.node (Done ri args) p → y.state ≡ Pending → Member y c
  pending_old y p m f s =
      elim (done_row-cases q.node (Done ri args) p) [
        | inl g ↦ (let z : Done ri args ≡ Pending = sym (ap (λ (y : Row). y.state) (f ∙ g.1)) ∙ s in absurd cc)
        | inr g ↦ subst (λ z. Member z c) (sym (f ∙ g)) m
      ]

  pending_added : (y : Row) → Member y added → y.state ≡ Pending → Member y c ⊎ FromChild y
  pending_added y m s =
      elim (Member-insert_rows y _ _ m) [
        | inl n ↦ (let (k, d, f, g) = Member-child_rows y q.node ri e 1 r.children n in
            let z : 1 + k ≡ suc k = omega arith in inr (k, d, f, g ∙ ap (λ k'. child_row q.node ri e k' d) z))
        | inr n ↦ (let (p, o, f) = member_unmap (done_row q.node (Done ri args)) y c n in inl (pending_old y p o f s))
      ]

  old_go : {a b : Ref} {v : Vertex} → (y : Row) (i j : ℕ) (t : Value) → Member y c → y.state ≡ Pending → rel y.sort i j → item y.inherited i ≡ Some t → In b t → a ≡ result y.node j → At a v → Go v b
  old_go {a} {b} {v} y i j t m s x f w n z =
      let (p, pj, mp, sp, np, lp0, lp) = T.whole y m b (inl (t, Item-at y.inherited i t f, w)) in
      let nd' = subst (λ h. Needs rel c h b) (sym n) (need y i j t m s x f w) in
      let st : W (H a) (H b) = outer nd' in
      (H b, old p pj mp np, subst (λ u. Plus W u (H b)) (At-one (old y j m n) z) (step st))

  child_go : {a b : Ref} {v : Vertex} → (y : Row) (i j : ℕ) (t : Value) → FromChild y → rel y.sort i j → item y.inherited i ≡ Some t → In b t → a ≡ result y.node j → At a v → Go v b
  child_go {a} {b} {v} y i j t (k, d, g, eq) x f w n z =
      let (ta, fa, te) = item-mapped (fill e) d.args i t (sym (ap (λ (y : Row). item y.inherited i) eq) ∙ f) in
      let at : term_at r (inherited (suc k) i) ≡ Some ta = ap (λ o. option_and_then (λ (c : Child). item c.args i) o) g ∙ fa in
      let (u, zu, wu) = value_walk (Inh (suc k) i) ta b at (subst (In b) te w) in
      let ed : Move r rel (Inh (suc k) i) (Out (suc k) j) = call (suc k) i j d g (subst (λ s. rel s i j) (ap (λ (y : Row). y.sort) eq) x) in
      let here : At a (O (Out (suc k) j)) = child k j (n ∙ ap (λ (y : Row). result y.node j) eq) in
      let st : W (O (Out (suc k) j)) (O (Inh (suc k) i)) = inner ed in
      (u, zu, subst (λ v'. Plus W v' u) (At-one here z) (more st wu))

  abbrev pub new : Config
  new = rounds (length r.results) (map (row_put sigma)) added

  new_edge : {a b : Ref} {v : Vertex} → Needs rel new a b → At a v → Go v b
  new_edge {b = b} {v = v} (need y i j t m s x f w) z =
      let M = length r.results in
      let (y1, m1, g) = Member-rounds M (row_put sigma) y added m in
      let s1 : y1.state ≡ Pending = sym (rounds-state M sigma y1) ∙ (sym (ap (λ (y : Row). y.state) g) ∙ s) in
      let (t0, f0, ht) = rounds-inherited M sigma y1 i t (sym (ap (λ (y : Row). item y.inherited i) g) ∙ f) in
      let (h0, w0, ch) = In-rounds M sigma b t0 (subst (In b) ht w) in
      let x1 = subst (λ n. rel n i j) (ap (λ (y : Row). y.sort) g ∙ rounds-sort M sigma y1) x in
      let nd : ◌≡◌ {A = Ref} (result y.node j) (result y1.node j) = ap (λ n. result n j) (ap (λ (y : Row). y.node) g ∙ rounds_node M sigma y1) in
      let start : Go v h0 = elim (pending_added y1 m1 s1) [ inl o ↦ old_go y1 i j t0 o s1 x1 f0 w0 nd z | inr o ↦ child_go y1 i j t0 o x1 f0 w0 nd z ] in
      chain_go ch start

  new_walk : {a b : Ref} {v : Vertex} → Plus (Needs rel new) a b → At a v → Go v b
  new_walk (step n) z = new_edge n z
  new_walk (more n w) z =
      let (u, zu, wu) = new_edge n z in
      let (x, zx, wx) = new_walk w zu in
      (x, zx, join wu wx)

  -- no walk comes back
  no_hole_round : (h : Ref) → Plus W (H h) (H h) → Never
  no_hole_round h w = T.no_circle h (contract r rel c q T.held T.open_ T.closed w)

  no_round : (v : Vertex) → Plus W v v → Never
  no_round (H h) w = no_hole_round h w
  no_round (O o) w = elim (within r rel c q w) [ inl x ↦ T.no_inner o x | inr y ↦ no_hole_round y.0 (join y.2 y.1) ]

  start_at : {a b : Ref} → Needs rel new a b → (v : Vertex) × At a v
  start_at (need y i j t m s x f w) =
      let M = length r.results in
      let (y1, m1, g) = Member-rounds M (row_put sigma) y added m in
      let s1 : y1.state ≡ Pending = sym (rounds-state M sigma y1) ∙ (sym (ap (λ (y : Row). y.state) g) ∙ s) in
      let nd : ◌≡◌ {A = Ref} (result y.node j) (result y1.node j) = ap (λ n. result n j) (ap (λ (y : Row). y.node) g ∙ rounds_node M sigma y1) in
      elim (pending_added y1 m1 s1) [
        | inl o ↦ (H _, old y1 j o nd)
        | inr o ↦ (O (Out (suc o.0) j), child o.0 j (nd ∙ ap (λ (y : Row). result y.node j) o.3))
      ]

  first_of_walk : {a b : Ref} → Plus (Needs rel new) a b → (v : Vertex) × At a v
  first_of_walk (step n) = start_at n
  first_of_walk (more n w) = start_at n

  -- the central law
  still_no_circle : (h : Ref) → Plus (Needs rel new) h h → Never
  still_no_circle h w =
      let (v, z) = first_of_walk w in
      let (u, zu, wu) = new_walk w z in
      no_round v (subst (λ u'. Plus W v u') (At-one zu z) wu)

  -- where a hole of the new configuration comes from
  abbrev pub Known : Ref → Type 0
  Known h = (p : Row) × (j : ℕ) × Member p c × (p.state ≡ Pending) × (h ≡ result p.node j) × (0 < j) × (j ≤ length p.results)

  abbrev pub OfChild : Ref → Type 0
  OfChild h = (k : ℕ) × (l : ℕ) × (d : Child) × (slice_get r.children k ≡ Some d) × (0 < l) × (l ≤ d.outs) × (h ≡ result (below q.node ri (suc k)) l)

  abbrev pub Fate : Ref → Type 0
  Fate h = Known h ⊎ OfChild h

  fate_parts : (k : ℕ) (b : Bool) (n : ℕ) (h : Ref) → Source_at q ri r k b n h → Fate h
  fate_parts zero false i h (t, a, b) = inl (T.whole q T.held h (inl (t, Item-at q.inherited i t a, b)))
  fate_parts (suc k) false i h s = never s
  fate_parts zero true j h s = never s
  fate_parts (suc k) true l h (d, a, b0, b, f) = inr (k, l, d, a, b0, b, f)

  pub fate_source : (u : Occ) (h : Ref) → Source q ri r u h → Fate h
  fate_source u h s = fate_parts u.child u.result u.number h s

  pub fate_term : (t : Term) (h : Ref) → In h (fill e t) → Fate h
  fate_term t h w =
      let (v, x, y) = In-bind (get nothing (env q.node ri r bs args)) h t w in
      let (u, b, s) = entered q ri r _ _ v h (env_enters q ri r bs args T.bound T.given) y in
      fate_source u h s

  fate_link : {a b : Ref} → In b (sigma a) → Fate a → Fate b
  fate_link {a} {b} x f =
      elim (In-put q.node (map (fill e) r.results) a b x) [
        | inl g ↦ subst Fate (sym g) f
        | inr g ↦ (let (t, k, y) = get-filled (fill e) r.results g.0 b g.2 in fate_term t b y)
      ]

  pub fate_chain : {m : ℕ} {a h : Ref} → Chain sigma m a h → Fate a → Fate h
  fate_chain end f = f
  fate_chain (link x ch) f = fate_chain ch (fate_link x f)

  -- the developed node's own holes
  abbrev pub Own : Ref → Type 0
  Own h = (j : ℕ) × (h ≡ result q.node j)

  own_link : (a b : Ref) → Own a → Own b → In b (sigma a) → Plus (Needs rel c) a b
  own_link a b (i, f) (j, g) x =
      let x1 = subst (λ a. In b (sigma a)) f x in
      let x2 = subst (λ z. In b (cond z (nth nothing (map (fill e) r.results) i) (Leaf (result q.node i)))) (node_self q.node) x1 in
      let (t, k, y) = get-filled (fill e) r.results i b x2 in
      let (u, z, ww) = value_walk (Out 0 i) t b k y in
      let w = subst (λ u'. Plus W (H (result q.node i)) u') (At-one z (old q j T.held g)) (more (enter i) ww) in
      subst (λ a. Plus (Needs rel c) a b) (sym f) (contract r rel c q T.held T.open_ T.closed w)

  pub own_before : {m : ℕ} {a h : Ref} → Chain sigma m a h → Own h → Own a
  own_before end o = o
  own_before (link {a = a} {b = b} x ch) o =
      let (j, g) = own_before ch o in
      elim (In-put q.node (map (fill e) r.results) a b x) [ inl f ↦ (j, sym f ∙ g) | inr f ↦ (f.0, f.1) ]

  abbrev places : List Ref
  places = map (result q.node) (upto 1 (length r.results))

  own_place : (b : Ref) → Own b → Fate b → Member b places
  own_place b (i, f) (inl (p, j, m, s, g, lt0, lt)) =
      let same = T.apart p m (sym (node_of g) ∙ node_of f) in
      let lt' : j < 1 + length r.results = omega (arith, lt, ap (λ (p : Row). length p.results) same, T.many) in
      let z : 1 ≤ j = omega (arith, lt0) in
      let g' = g ∙ ap (λ (p : Row). result p.node j) same in
      subst (λ x. Member x places) (sym g') (member_map (result q.node) j (upto 1 (length r.results)) (Member-upto 1 (length r.results) j z lt'))
  own_place b (i, f) (inr (k, l, d, s, lt0, lt, g)) = never (T.fresh q T.held (suc k) (sym (node_of f) ∙ node_of g))

  own_list : {m : ℕ} {a h : Ref} → Chain sigma m a h → Own h → Fate a → (ys : List Ref) × (length ys ≡ m) × Each (λ y. Member y places) ys
      × Each (Plus (Needs rel c) a) ys × Later (Plus (Needs rel c)) ys
  own_list end o f = ([], refl, tt, tt, tt)
  own_list (link {a = a} {b = b} x ch) o f =
      let ob = own_before ch o in
      let fb = fate_link x f in
      let (ys, l, m, n, t) = own_list ch o fb in
      let oa : Own a = own_before (link x ch) o in
      let ab = own_link a b oa ob x in
      (b ∷ ys, ap suc l, (own_place b ob fb, m), (ab, each_map (Plus (Needs rel c) b) (Plus (Needs rel c) a) ys (λ y w. join ab w) n), (n, t))

  -- m rounds are enough
  pub no_own : (a h : Ref) → Chain sigma (length r.results) a h → Fate a → Own h → Never
  no_own a h ch f o =
      let (ys, l, m, n, t) = own_list ch o f in
      let (z, w) = pigeon (Plus (Needs rel c)) places (a ∷ ys) (own_place a (own_before ch o) f, m) (n, t)
      (omega (arith, l, length-map (upto 1 (length r.results)) (result q.node), length-upto 1 (length r.results))) in
      T.no_circle z w

  pub added_cases : (y : Row) → Member y added → FromChild y ⊎ ((p : Row) × Member p c × (y ≡ done_row q.node (Done ri args) p))
  added_cases y m =
      elim (Member-insert_rows y _ _ m) [
        | inl n ↦ (let (k, d, f, g) = Member-child_rows y q.node ri e 1 r.children n in
            let z : 1 + k ≡ suc k = omega arith in inl (k, d, f, g ∙ ap (λ k'. child_row q.node ri e k' d) z))
        | inr n ↦ (let (p, o, f) = member_unmap (done_row q.node (Done ri args)) y c n in inr (p, o, f))
      ]

  same_trees : (p : Row) → ((done_row q.node (Done ri args) p).inherited ≡ p.inherited) × ((done_row q.node (Done ri args) p).results ≡ p.results)
  same_trees p = (done_row-same (λ (y : Row). y.inherited) q.node (Done ri args) p refl, done_row-same (λ (y : Row). y.results) q.node (Done ri args) p refl)

  fate_child : (a : Ref) (y : Row) → FromChild y → Stands a y → Fate a
  fate_child a y (k, d, f, g) (inl (t, m, w)) =
      let (s, n, eq) = member_unmap (fill e) t d.args (subst (λ (y : Row). Member t y.inherited) g m) in
      fate_term s a (subst (In a) eq w)
  fate_child a y (k, d, f, g) (inr (t, m, w)) =
      let (l, n, eq) = member_unmap (λ j. Leaf (result (below q.node ri (suc k)) j)) t (upto 1 d.outs) (subst (λ (y : Row). Member t y.results) g m) in
      let lt : l < 1 + d.outs = upto-bound 1 d.outs l n in
      let low : 0 < l = upto-low 1 d.outs l n in
      let lt' : l ≤ d.outs = omega (arith, lt) in
      inr (k, l, d, f, low, lt', subst (In a) eq w)

  fate_added : (a : Ref) (y : Row) → Member y added → Stands a y → Fate a
  fate_added a y m s =
      elim (added_cases y m) [
        | inl f ↦ fate_child a y f s
        | inr (p, o, f) ↦ inl (T.whole p o a (elim s [
          | inl (t, n, w) ↦ inl (t, subst (Member t) (ap (λ (y : Row). y.inherited) f ∙ (same_trees p).0) n, w)
          | inr (t, n, w) ↦ inr (t, subst (Member t) (ap (λ (y : Row). y.results) f ∙ (same_trees p).1) n, w)
        ]))
      ]

  in_new : (y : Row) (j : ℕ) (h : Ref) → Member y added → y.state ≡ Pending → h ≡ result y.node j → 0 < j → j ≤ length y.results → (p : Row) × (j : ℕ)
      × Member p new × (p.state ≡ Pending) × (h ≡ result p.node j) × (0 < j) × (j ≤ length p.results)
  in_new y j h m s f lt0 lt =
      let M = length r.results in (
        rounds M (row_put sigma) y,
        j,
        Member-rounded M (row_put sigma) y added m,
        rounds-state M sigma y ∙ s,
        f ∙ ap (λ n. result n j) (sym (rounds_node M sigma y)),
        lt0,
        omega (arith, lt, rounds-results-length M sigma y),
      )

  pub fate_new : (a h : Ref) → Chain sigma (length r.results) a h → Fate a → Fate h → (p : Row) × (j : ℕ) × Member p new × (p.state ≡ Pending)
      × (h ≡ result p.node j) × (0 < j) × (j ≤ length p.results)
  fate_new a h ch fa (inl (p, j, m, s, f, lt0, lt)) =
      elim (done_row-cases q.node (Done ri args) p) [
        | inl g ↦ never (no_own a h ch fa (j, f ∙ ap (λ n. result n j) (sym g.0)))
        | inr g ↦ in_new p j h (Member-all_inserted p (child_rows q.node ri e 1 r.children) (map (done_row q.node (Done ri args)) c)
            (inr (subst (λ y. Member y (map (done_row q.node (Done ri args)) c)) g (member_map (done_row q.node (Done ri args)) p c m)))) s f lt0 lt
      ]
  fate_new a h ch fa (inr (k, l, d, s, lt0, lt, f)) =
      let z : 1 + k ≡ suc k = omega arith in
      let mem = subst (λ k'. Member (child_row q.node ri e k' d) (child_rows q.node ri e 1 r.children)) z (Member-made_children q.node ri e 1 r.children k d s) in
      in_new (child_row q.node ri e (suc k) d) l h (Member-all_inserted (child_row q.node ri e (suc k) d) (child_rows q.node ri e 1 r.children)
      (map (done_row q.node (Done ri args)) c) (inl mem)) refl f lt0
      (omega (arith, lt, length-map (upto 1 d.outs) (λ j. Leaf (result (below q.node ri (suc k)) j)), length-upto 1 d.outs))

  still_whole : IsWhole new
  still_whole y m h s =
      let M = length r.results in
      let (y1, m1, g) = Member-rounds M (row_put sigma) y added m in
      elim s [
        | inl (t, n, w) ↦
            (let n1 = subst (Member t) (ap (λ (y : Row). y.inherited) g ∙ rounds-inherited-list M sigma y1) n in
            let (t0, n0, eq) = Member-rounds M (bind sigma) t y1.inherited n1 in
            let (a, x, ch) = In-rounds M sigma h t0 (subst (In h) eq w) in
            let fa = fate_added a y1 m1 (inl (t0, n0, x)) in
            fate_new a h ch fa (fate_chain ch fa))
        | inr (t, n, w) ↦
            (let n1 = subst (Member t) (ap (λ (y : Row). y.results) g ∙ rounds-results-list M sigma y1) n in
            let (t0, n0, eq) = Member-rounds M (bind sigma) t y1.results n1 in
            let (a, x, ch) = In-rounds M sigma h t0 (subst (In h) eq w) in
            let fa = fate_added a y1 m1 (inr (t0, n0, x)) in
            fate_new a h ch fa (fate_chain ch fa))
      ]

  pub develop-acyclic : IsAcyclic rel (develop q.node ri r bs args c)
  develop-acyclic = record { whole = still_whole; no_circle = still_no_circle }
