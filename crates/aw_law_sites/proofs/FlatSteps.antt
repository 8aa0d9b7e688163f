-- One choice: the values of all old references change as the rounds change the trees.
use Rattle.std.proofs.Common.{◌≡◌, ℕ, zero, suc, ◌+◌, ◌<◌, ◌≤◌, Bool, true, false, cond, List, [], ◌∷◌, ◌++◌, map, length, Some, None, refl, sym, ap, ◌∙◌, subst, inl, inr, arith}
use Rattle.std.specs.Prelude.{slice_get, ◌⊎◌}
use Rattle.aw_list.specs.Members.{Member}
use Rattle.aw_list.proofs.Members.{never, member_got}
use Rattle.aw_term.specs.Trees.{Never, Tree, Leaf, Made, Trees, Nil, More, In, bind, binds}
use Rattle.aw_term.specs.Names.{below, Node, node_eq, Ref, result, part}
use Rattle.aw_term.specs.Rules.{Term, Ground, Value, Child, Rule, get, upto}
use Rattle.aw_term.specs.Configs.{holes, env, fill, nothing, lift, child_holes, Row, Config, result_at, rounds}
use Rattle.aw_store.specs.Equations.{Equation, Map, find}
use Rattle.aw_store.specs.Unfold.{Unfolds, missing}
use Rattle.aw_apply.specs.Made.{lay, lay_list, lay_children, lay_result, lay_results, child_refs, made}
use Rattle.aw_accept.specs.Acyclic.{Pairs}
use Rattle.aw_accept.proofs.Binding.{Pairs-append}
use Rattle.aw_term.specs.WellFormed.{Each}
use Rattle.aw_accept.proofs.ConfigLemmas.{In-rounds}
use Rattle.aw_store.proofs.MoreEquations.{find-left_more, find-right_more, find-absent, Holds, Holds-left, Holds-right}
use Rattle.aw_apply.proofs.Numbering.{Lies, made-apart, made-holds}
use Rattle.aw_law_sites.specs.Laws.{AllUnfold}
use Rattle.aw_law_sites.proofs.Substituting.{lay-unfolds, lay_result-unfolds, rounds-leaf, VarOk, Answered, IsChange, substitute, variables_go, rounds-bind}
use Rattle.aw_accept.proofs.Developing.{Taking, Known, sigma, fate_term, no_own}
use Rattle.aw_law_sites.proofs.Entering.{IsTermOf}
use Rattle.aw_name.specs.SameNodes.{node_is, node_self}
use Rattle.aw_term.proofs.Eaches.{each_map}

pub node_cases : (b : Bool) (n m : Node) → node_eq n m ≡ b → (n ≡ m) ⊎ (node_eq n m ≡ false)
node_cases true n m e = inl (node_is n m e)
node_cases false n m e = inr e

mutual
  lift-kept : (s : Ref → Tree Ref) (t : Ground) → bind s (lift t) ≡ lift t
  lift-kept s (Leaf x) = never x
  lift-kept s (Made h ts) = ap (Made h) (lifts-kept s ts)

  lifts-kept : (s : Ref → Tree Ref) (ts : Trees Never) → binds s (binds (λ x. elim x [ ]) ts) ≡ binds (λ x. elim x [ ]) ts
  lifts-kept s Nil = refl
  lifts-kept s (More t ts) = let a = lift-kept s t in let b = lifts-kept s ts in λ i. More (a i) (b i)

pub lift-rounds : (s : Ref → Tree Ref) (t : Ground) (m : ℕ) → rounds m (bind s) (lift t) ≡ lift t
lift-rounds s t zero = refl
lift-rounds s t (suc m) = ap (rounds m (bind s)) (lift-kept s t) ∙ lift-rounds s t m

pub Pairs-get : {A B : Type 0} (P : A → B → Type 0) (a : A) (b : B) (xs : List A) (ys : List B) (v : ℕ) → Pairs P xs ys → v < length ys → P (get a xs v) (get b ys v)
Pairs-get P a b [] [] v p lt = absurd (omega arith)
Pairs-get P a b [] (y ∷ ys) v p lt = never p
Pairs-get P a b (x ∷ xs) [] v p lt = never p
Pairs-get P a b (x ∷ xs) (y ∷ ys) zero p lt = p.0
Pairs-get P a b (x ∷ xs) (y ∷ ys) (suc v) p lt = Pairs-get P a b xs ys v p.1 (omega arith)

get-term : (f : Term → Value) (ts : List Term) (j : ℕ) → j < length ts → (t : Term) × (slice_get ts j ≡ Some t) × (get nothing (map f ts) j ≡ f t)
get-term f [] j lt = absurd (omega arith)
get-term f (t ∷ ts) zero lt = (t, refl, refl)
get-term f (t ∷ ts) (suc j) lt = get-term f ts j (omega arith)

result-holds : (k : Map) (n : Node) (f : ℕ → Ref) (ts : List Term) (i j l : ℕ) (t : Term) → slice_get ts l ≡ Some t →
    Holds k (lay_results n f i j ts) → (i' : ℕ) × Holds k (lay_result n f i' (j + l) t).equations
result-holds k n f [] i j l t e h = absurd cc
result-holds k n f (u ∷ ts) i j zero t e h =
    let z : j ≡ j + 0 = omega arith in
    let p : u ≡ t = cc in
    let a = Holds-left k (lay_result n f i j u).equations (lay_results n f (lay_result n f i j u).next (suc j) ts) h in
    (i, subst (λ t. Holds k (lay_result n f i (j + 0) t).equations) p (subst (λ j. Holds k (lay_result n f i j u).equations) z a))
result-holds k n f (u ∷ ts) i j (suc l) t e h =
    let z : suc j + l ≡ j + suc l = omega arith in
    let (i', a) = result-holds k n f ts (lay_result n f i j u).next (suc j) l t e (Holds-right k (lay_result n f i j u).equations (lay_results n f (lay_result n f i j u).next (suc j) ts) h) in
    (i', subst (λ j. Holds k (lay_result n f i' j t).equations) z a)

-- the flat side of a taking
pub record FlatTaking (rel : ℕ → ℕ → ℕ → Type 0) (c : Config) (q : Row) (ri : ℕ) (r : Rule) (bs : List Value) (args : List Ground) (k : Map) (bound : List Ref) : Type 0 where
  pub plain : Taking rel c q ri r bs args
  pub own_free : (x : Ref) → x.node ≡ q.node → find k x ≡ None
  pub child_free : (x : Ref) (i : ℕ) → x.node ≡ below q.node ri i → find k x ≡ None
  pub values : AllUnfold k bound bs
  pub parts : (b : Value) → Member b bs → (h : Ref) → In h b → Known rel c q ri r bs args plain h
  pub in_range : (t : Term) → IsTermOf r t → (v : ℕ) → In v t → v < length (env q.node ri r bs args)

module _ (rel : ℕ → ℕ → ℕ → Type 0) (c : Config) (q : Row) (ri : ℕ) (r : Rule) (bs : List Value) (args : List Ground) (k : Map) (bound : List Ref) (T : FlatTaking rel c q ri r bs args k bound) where
  abbrev pub n : Node
  n = q.node

  abbrev pub es : List Equation
  es = (made n ri r args bound).equations

  abbrev pub k' : Map
  k' = k ++ es

  abbrev pub s : Ref → Tree Ref
  s = sigma rel c q ri r bs args T.plain

  abbrev pub vals : List Value
  vals = env n ri r bs args

  abbrev pub laid_args : List Ref
  laid_args = (lay_list n (λ (x : Never). elim x [ ]) 1 args).roots

  abbrev pub refs : List Ref
  refs = bound ++ (laid_args ++ child_refs n ri 1 r.children)

  abbrev pub Good : Ref → Type 0
  Good = Known rel c q ri r bs args T.plain

  abbrev pub Bad : Ref → Type 0
  Bad x = (j : ℕ) × (x ≡ result n j)

  pub left_own : Each (λ (e : Equation). e.left.node ≡ n) es
  left_own = let (e, a) = made-apart n ri r args bound in each_map (Lies n 1 e 1 (1 + length r.results)) (λ (e : Equation). e.left.node ≡ n) es (λ x l. l.0) a.lie

  pub elsewhere : (x : Ref) → (x.node ≡ n → Never) → find k x ≡ None → find k' x ≡ None
  elsewhere x h f = find-right_more k es x f ∙ find-absent es x (each_map (λ (e : Equation). e.left.node ≡ n) (λ (e : Equation). x ≡ e.left → Never)
      es (λ e a p. h (ap (λ (r : Ref). r.node) p ∙ a)) left_own)

  pub made_holds : Holds k' es
  made_holds = made-holds k n ri r args bound T.own_free

  pub other_kept : (x : Ref) → node_eq n x.node ≡ false → s x ≡ Leaf x
  other_kept x e = ap (λ b. cond b (result_at (map (fill vals) r.results) x x.slot) (Leaf x)) e

  pub apart_no : (x : Ref) → node_eq n x.node ≡ false → x.node ≡ n → Never
  apart_no x e p = let a = node_self n in let b = subst (λ m. node_eq n m ≡ false) p e in absurd cc

  abbrev pub Ok : Ref → Tree Ref → Type 0
  Ok = VarOk k k' s Good Bad (get (part n 0) refs) (get nothing vals)

  bound_ok : (rs : List Ref) (ts : List Value) → AllUnfold k rs ts → ((b : Value) → Member b ts → (h : Ref) → In h b → Good h) → Pairs Ok rs ts
  bound_ok [] [] a g = tt
  bound_ok (r ∷ rs) (t ∷ ts) a g = (inl (a.0, g t (inl refl)), bound_ok rs ts a.1 (λ b m. g b (inr m)))
  bound_ok [] (t ∷ ts) a g = never a
  bound_ok (r ∷ rs) [] a g = never a

  args_ok : (as' : List Ground) (i : ℕ) → Holds k' (lay_list n (λ (x : Never). elim x [ ]) i as').equations → Pairs Ok (lay_list n (λ (x : Never). elim x [ ]) i as').roots (map lift as')
  args_ok [] i h = tt
  args_ok (t ∷ ts) i h =
      let a = lay n (λ (x : Never). elim x [ ]) i t in
      let d = lay-unfolds k' n (λ (x : Never). elim x [ ]) (λ (x : Never). elim x [ ]) t i
      (Holds-left k' a.equations (lay_list n (λ (x : Never). elim x [ ]) a.next ts).equations h) (λ x w. elim x [ ]) in
      (inr (λ m. subst (Unfolds k' a.roots) (sym (lift-rounds s t m)) d), args_ok ts a.next (Holds-right k' a.equations (lay_list n (λ (x : Never). elim x [ ]) a.next ts).equations h))

  pub child_ref_ok : (i j : ℕ) → Ok (result (below n ri i) j) (Leaf (result (below n ri i) j))
  child_ref_ok i j =
      let x = result (below n ri i) j in
      let no : below n ri i ≡ n → Never = λ p. T.plain.fresh q T.plain.held i (sym p) in
      elim (node_cases (node_eq n (below n ri i)) n (below n ri i) refl) [
        | inl p ↦ never (no (sym p))
        | inr e ↦ inr (λ m. subst (Unfolds k' (result (below n ri i) j))
            (sym (rounds-leaf s m (result (below n ri i) j) (other_kept (result (below n ri i) j) e)))
            (missing (elsewhere (result (below n ri i) j) no (T.child_free (result (below n ri i) j) i refl))))
      ]

  outs_ok : (i : ℕ) (js : List ℕ) → Pairs Ok (map (result (below n ri i)) js) (map (λ j. Leaf (result (below n ri i) j)) js)
  outs_ok i [] = tt
  outs_ok i (j ∷ js) = (child_ref_ok i j, outs_ok i js)

  children_ok : (i : ℕ) (cs : List Child) → Pairs Ok (child_refs n ri i cs) (child_holes n ri i cs)
  children_ok i [] = tt
  children_ok i (d ∷ cs) = Pairs-append Ok (map (result (below n ri i)) (upto 1 d.outs)) (holes (below n ri i) d.outs) (child_refs n ri (suc i) cs)
      (child_holes n ri (suc i) cs) (outs_ok i (upto 1 d.outs)) (children_ok (suc i) cs)

  abbrev pub rest_laid : List Equation
  rest_laid =
      let a = lay_list n (λ (x : Never). elim x [ ]) 1 args in
      let c = lay_children n ri (get (part n 0) refs) 1 a.next r.children in
      c.equations ++ lay_results n (get (part n 0) refs) c.next 1 r.results

  pub all_ok : Pairs Ok refs vals
  all_ok =
      Pairs-append Ok bound bs (laid_args ++ child_refs n ri 1 r.children) (map lift args ++ child_holes n ri 1 r.children) (bound_ok bound bs T.values T.parts)
      (Pairs-append Ok laid_args (map lift args) (child_refs n ri 1 r.children) (child_holes n ri 1 r.children)
      (args_ok args 1 (Holds-left k' (lay_list n (λ (x : Never). elim x [ ]) 1 args).equations rest_laid made_holds)) (children_ok 1 r.children))

  results_hold : (i : ℕ) × Holds k' (lay_results n (get (part n 0) refs) i 1 r.results)
  results_hold =
      let a = lay_list n (λ (x : Never). elim x [ ]) 1 args in
      let c = lay_children n ri (get (part n 0) refs) 1 a.next r.children in
      (c.next, Holds-right k' c.equations (lay_results n (get (part n 0) refs) c.next 1 r.results) (Holds-right k' a.equations rest_laid made_holds))

  answer : (j : ℕ) → j < length r.results → Answered k k' s Good Bad (get (part n 0) refs) (get nothing vals) (result n (suc j))
  answer j lt =
      let (t, f, g) = get-term (fill vals) r.results j lt in
      let (i, h) = results_hold in
      let (i', h') = result-holds k' n (get (part n 0) refs) r.results i 1 j t f h in
      let z : 1 + j ≡ suc j = omega arith in
      record {
        term = t;
        value = ap (λ b. cond b (get nothing (map (fill vals) r.results) j) (Leaf (result n (suc j)))) (node_self n) ∙ g;
        built = λ u w. lay_result-unfolds k' n (get (part n 0) refs) u t i' (suc j) (subst (λ j. Holds k' (lay_result n (get (part n 0) refs) i' j t).equations) z h') w;
        variable = λ v w. Pairs-get Ok (part n 0) nothing refs vals v all_ok (T.in_range t (inl (member_got r.results j t f)) v w);
      }

  answer_at : (j : ℕ) → 0 < j → j ≤ length r.results → Answered k k' s Good Bad (get (part n 0) refs) (get nothing vals) (result n j)
  answer_at zero low high = absurd (omega arith)
  answer_at (suc j) low high = answer j (omega arith)

  pub is_change : IsChange k k' s Good Bad (get (part n 0) refs) (get nothing vals)
  is_change = record { extends = find-left_more k es; leaf = leaf }
    where
      leaf : (x : Ref) → Good x → find k x ≡ None → ((s x ≡ Leaf x) × (find k' x ≡ None)) ⊎ (Bad x × Answered k k' s Good Bad (get (part n 0) refs) (get nothing vals) x)
      leaf x (p, j, m, st, f, low, high) gone =
          elim (node_cases (node_eq n x.node) n x.node refl) [
            | inl e ↦
                (let own = T.plain.apart p m (sym (ap (λ (r : Ref). r.node) f) ∙ sym e) in
                let high' : j ≤ length r.results = omega (arith, high, ap (λ (p : Row). length p.results) own, T.plain.many) in
                let f' = f ∙ ap (λ (p : Row). result p.node j) own in
                inr ((j, f'), subst (Answered k k' s Good Bad (get (part n 0) refs) (get nothing vals)) (sym f') (answer_at j low high')))
            | inr e ↦ inl (other_kept x e, elsewhere x (apart_no x e) gone)
          ]

  -- the law, for one reference
  pub value_changes : (x : Ref) (t : Value) → Unfolds k x t → ((h : Ref) → In h t → Good h) → Unfolds k' x (rounds (length r.results) (bind s) t)
  value_changes x t d g =
      substitute k k' s Good Bad (get (part n 0) refs) (get nothing vals) is_change (length r.results) x t d g
      (λ y i b. let (a, w, ch) = In-rounds (length r.results) s y t i in no_own rel c q ri r bs args T.plain a y ch (inl (g a w)) b)

  -- a term that is laid down
  pub term_changes : (t : Term) → IsTermOf r t → (i : ℕ) → Holds k' (lay n (get (part n 0) refs) i t).equations →
      Unfolds k' (lay n (get (part n 0) refs) i t).roots (rounds (length r.results) (bind s) (fill vals t))
  term_changes t o i h =
      let M = length r.results in
      let clean = λ (y : Ref) (j : In y (rounds (length r.results) (bind s) (fill vals t))) (b : Bad y). (let (a, w, ch) =
      In-rounds (length r.results) s y (fill vals t) j in no_own rel c q ri r bs args T.plain a y ch (fate_term rel c q ri r bs args T.plain t a w) b) in
      let go = variables_go k k' s Good Bad (get (part n 0) refs) (get nothing vals) is_change M (substitute k k' s Good Bad (get (part n 0) refs) (get nothing vals) is_change M) t clean
      (λ v w. Pairs-get Ok (part n 0) nothing refs vals v all_ok (T.in_range t o v w)) in
      subst (Unfolds k' (lay n (get (part n 0) refs) i t).roots) (sym (rounds-bind s M (get nothing vals) t))
      (lay-unfolds k' n (get (part n 0) refs) (λ v. rounds M (bind s) (get nothing vals v)) t i h go)
