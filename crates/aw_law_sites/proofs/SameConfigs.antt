-- Any order gives the same configuration.
use Rattle.std.proofs.Common.{◌≡◌, ℕ, zero, suc, ◌+◌, true, List, [], ◌∷◌, map, length, Option, Some, None, refl, sym, ap, ◌∙◌, subst, inl, inr, arith}
use Rattle.std.specs.Prelude.{slice_get}
use Rattle.std.proofs.lemmas.Option.{same_Some, option_and_then_some}
use Rattle.aw_list.specs.Members.{Member}
use Rattle.aw_list.proofs.Members.{never, member_unmap}
use Rattle.aw_term.specs.Trees.{Never}
use Rattle.aw_term.specs.Names.{below, Node, node_lt, Ref, result, root}
use Rattle.aw_term.specs.Rules.{Value, Child, Grammar}
use Rattle.aw_term.specs.Configs.{State, Pending, Done, Row, Config, child_rows, insert_row, insert_rows, done_row, row_put, rounds, row_of}
use Rattle.aw_term.specs.Choices.{Choice, Start, Develop, Outcome, Refused, Starts, Takes, start_row, outcome, taken, undivided}
use Rattle.aw_accept.specs.Acyclic.{Pairs, IsGivenGrammar, gives}
use Rattle.aw_iograph.specs.Dependence.{IO, HasNoCircle}
use Rattle.aw_iograph.proofs.Relations.{io_closed}
use Rattle.aw_store.specs.Equations.{Body, Map, find}
use Rattle.aw_store.specs.Unfold.{Unfolds}
use Rattle.aw_law_sites.specs.Joint.{Held, Joint, empty_joint, joint_outcome, joint_taken, joint_run}
use Rattle.aw_law_sites.proofs.Entering.{VariablesEnter}
use Rattle.aw_law_sites.specs.Laws.{Agree, AllUnfold}
use Rattle.aw_term.specs.WellFormed.{Each, Later}
use Rattle.aw_accept.proofs.ConfigLemmas.{below-child, Member-child_rows, Member-insert_row}
use Rattle.aw_accept.proofs.UndividedRuns.{Good, decode_on, taking, held_none, row_of-none, empty_good, taken-good}
use Rattle.aw_law_sites.proofs.Unfolding.{one_value}
use Rattle.aw_law_sites.proofs.Lockstep.{Lockstep, LikeStates, run_lockstep, step_lockstep, answers_agree, empty_lockstep}
use Rattle.aw_law_sites.proofs.AnyOrders.{IsFit, IsPartOf, Goes_on, any_order}
use Rattle.aw_term.proofs.NodeOrder.{node-no}
use Rattle.aw_law_sites.proofs.Ordering.{Before, IsInOrder, insert-in_order, same_rows}
use Rattle.aw_law_sites.proofs.Lists.{each_of}
use Rattle.aw_term.proofs.RowParts.{done_node}
use Rattle.aw_accept.proofs.Fitting.{each_member}

module _ (k k' : Map) (more_ : (r : Ref) (b : Body) → find k r ≡ Some b → find k' r ≡ Some b) (fewer : (r : Ref) → find k r ≡ None → find k' r ≡ None) where
  pub list_values : (rs : List Ref) (ts us : List Value) → AllUnfold k rs ts → AllUnfold k' rs us → ts ≡ us
  list_values [] [] [] a b = refl
  list_values [] (t ∷ ts) us a b = never a
  list_values [] [] (u ∷ us) a b = never b
  list_values (r ∷ rs) [] us a b = never a
  list_values (r ∷ rs) (t ∷ ts) [] a b = never b
  list_values (r ∷ rs) (t ∷ ts) (u ∷ us) a b = let p = one_value k k' more_ fewer a.0 u b.0 in let q = list_values rs ts us a.1 b.1 in λ i. p i ∷ q i

list_same : (ts us : List Value) → length ts ≡ length us → ((j : ℕ) (t u : Value) → slice_get ts j ≡ Some t → slice_get us j ≡ Some u → t ≡ u) → ts ≡ us
list_same [] [] e f = refl
list_same [] (u ∷ us) e f = absurd (omega arith)
list_same (t ∷ ts) [] e f = absurd (omega arith)
list_same (t ∷ ts) (u ∷ us) e f = let a = f 0 t u refl refl in let b = list_same ts us (omega arith) (λ j t u x y. f (suc j) t u x y) in λ i. a i ∷ b i

-- order is kept
map-in_order : (f : Row → Row) → ((r : Row) → (f r).node ≡ r.node) → (c : Config) → IsInOrder c → IsInOrder (map f c)
map-in_order f e [] o = tt
map-in_order f e (q ∷ c) o = (each c o.0, map-in_order f e c o.1)
  where
    each : (c : Config) → Each (Before q) c → Each (Before (f q)) (map f c)
    each [] h = tt
    each (r ∷ c) h = ((let a = e q in let b = e r in ap (λ z. z) (subst (λ n. node_lt n (f r).node ≡ true) (sym a) (subst (λ n. node_lt q.node n ≡ true) (sym b) h.0))), each c h.1)

rounds-in_order : (m : ℕ) (f : Row → Row) → ((r : Row) → (f r).node ≡ r.node) → (c : Config) → IsInOrder c → IsInOrder (rounds m (map f) c)
rounds-in_order zero f e c o = o
rounds-in_order (suc m) f e c o = rounds-in_order m f e (map f c) (map-in_order f e c o)

insert_rows-in_order : (rs : List Row) (c : Config) → Later (λ (a b : Row). a.node ≡ b.node → Never) rs →
    ((r : Row) → Member r rs → (p : Row) → Member p c → r.node ≡ p.node → Never) → IsInOrder c → IsInOrder (insert_rows rs c)
insert_rows-in_order [] c l f o = o
insert_rows-in_order (r ∷ rs) c l f o =
    insert_rows-in_order rs (insert_row r c) l.1
    (λ x m p mp e. elim (Member-insert_row p r c mp) [ inl a ↦ each_member (λ (b : Row). r.node ≡ b.node → Never) rs x l.0 m (sym (ap (λ (r : Row). r.node) a) ∙ sym e) | inr a ↦ f x (inr m) p a e ])
    (insert-in_order r c (λ p m. f r (inl refl) p m) o)

later_children : (n : Node) (ri : ℕ) (e : List Value) (k : ℕ) (cs : List Child) → Later (λ (a b : Row). a.node ≡ b.node → Never) (child_rows n ri e k cs)
later_children n ri e k [] = tt
later_children n ri e k (c ∷ cs) = (
  each_of (λ (b : Row). below n ri k ≡ b.node → Never) (child_rows n ri e (suc k) cs) (λ x m f. let (j, d, g, h) =
      Member-child_rows x n ri e (suc k) cs m in no_self k j (below-child n ri k (suc k + j) (f ∙ ap (λ (r : Row). r.node) h))),
  later_children n ri e (suc k) cs,
)
  where
    no_self : (k j : ℕ) → k ≡ suc k + j → Never
    no_self k j e = absurd (omega arith)

module _ (g : Grammar) (fit : IsGivenGrammar g) (enter : VariablesEnter g) (ok : HasNoCircle g (IO g)) where
  taken-in_order : (c : Config) (x : Choice) (o : Outcome Value Ref) (d : Config) → Good g fit (IO g) (io_closed g) ok c → IsInOrder c → outcome g c x ≡ o → taken g c x o ≡ Some d → IsInOrder d
  taken-in_order c x (Refused a) d good i e t = absurd cc
  taken-in_order c (Start s k) Starts d good i e t =
      subst IsInOrder (same_Some _ _ t) (insert-in_order (start_row g s k) c (λ p m f. row_of-none (root s k) c (held_none g fit (IO g) (io_closed g) ok (row_of (root s k) c) e) p m (sym f)) i)
  taken-in_order c (Start s k) (Takes rule bs) d good i e t = absurd cc
  taken-in_order c (Develop n ri args) Starts d good i e t = absurd cc
  taken-in_order c (Develop n ri args) (Takes rule bs) d good i e t =
      let D = decode_on g c (row_of n c) n ri args rule bs refl e in
      let P = taking g fit (IO g) (io_closed g) ok c n ri args rule bs good D in
      subst IsInOrder (same_Some _ _ t)
      (rounds-in_order (length rule.results) (row_put _) (λ r. refl) _
      (insert_rows-in_order _ (map (done_row n (Done ri args)) c) (later_children n ri _ 1 rule.children)
      (λ x m p mp f.
      let (j, dd, h, z) = Member-child_rows x n ri _ 1 rule.children m in
      let (p0, m0, eq) = member_unmap (done_row n (Done ri args)) p c mp in
      P.fresh p0 m0 (1 + j) (sym (done_node n (Done ri args) p0) ∙ (sym (ap (λ (r : Row). r.node) eq) ∙ (sym f ∙ (ap (λ (r : Row). r.node) z ∙ ap (λ n. below n ri (1 + j)) (sym D.node))))))
      (map-in_order (done_row n (Done ri args)) (done_node n (Done ri args)) c i)))

  pub record Fit (w : Joint) : Type 0 where
    pub config : Config
    pub joint : Lockstep g fit enter ok w config
    pub in_order : IsInOrder config

  pub row_for : (k : Map) (hs : List Held) (c : Config) → Pairs (λ h q. Agree k h q) hs c → (h : Held) → Member h hs → (q : Row) × Member q c × Agree k h q
  row_for k [] c p h m = never m
  row_for k (x ∷ hs) [] p h m = never p
  row_for k (x ∷ hs) (q ∷ c) p h (inl e) = (q, inl refl, subst (λ h. Agree k h q) (sym e) p.0)
  row_for k (x ∷ hs) (q ∷ c) p h (inr m) = let (y, n, a) = row_for k hs c p.1 h m in (y, inr n, a)

  pub held_for : (k : Map) (hs : List Held) (c : Config) → Pairs (λ h q. Agree k h q) hs c → (q : Row) → Member q c → (h : Held) × Member h hs × Agree k h q
  held_for k [] [] p q m = never m
  held_for k [] (x ∷ c) p q m = never p
  held_for k (x ∷ hs) [] p q m = never p
  held_for k (h ∷ hs) (x ∷ c) p q (inl e) = (h, inl refl, subst (λ q. Agree k h q) (sym e) p.0)
  held_for k (h ∷ hs) (x ∷ c) p q (inr m) = let (y, n, a) = held_for k hs c p.1 q m in (y, inr n, a)

  clash : (k : Map) (x : Held) (hs : List Held) (q : Row) (c : Config) → Pairs (λ h q. Agree k h q) (x ∷ hs) (q ∷ c) → IsInOrder (q ∷ c) → (y : Held) → Member y hs → y.node ≡ x.node → Never
  clash k x hs q c p o y m e =
      let (z, mz, az) = row_for k hs c p.1 y m in
      node-no q.node (subst (λ n. node_lt q.node n ≡ true) (sym az.node ∙ (e ∙ p.0.node)) (each_member (Before q) c z o.0 mz))

  pub held_apart : (k : Map) (hs : List Held) (c : Config) → Pairs (λ h q. Agree k h q) hs c → IsInOrder c → (h h' : Held) → Member h hs → Member h' hs → h.node ≡ h'.node → h ≡ h'
  held_apart k [] c p o h h' m m' e = never m
  held_apart k (x ∷ hs) [] p o h h' m m' e = never p
  held_apart k (x ∷ hs) (q ∷ c) p o h h' (inl a) (inl b) e = a ∙ sym b
  held_apart k (x ∷ hs) (q ∷ c) p o h h' (inr a) (inr b) e = held_apart k hs c p.1 o.1 h h' a b e
  held_apart k (x ∷ hs) (q ∷ c) p o h h' (inl a) (inr b) e = never (clash k x hs q c p o h' b (sym e ∙ ap (λ (h : Held). h.node) a))
  held_apart k (x ∷ hs) (q ∷ c) p o h h' (inr a) (inl b) e = never (clash k x hs q c p o h a (e ∙ ap (λ (h : Held). h.node) b))

  none_of : (w : Joint) (f : Fit w) (h : Held) → Member h w.held → h.state ≡ Pending → (x : Ref) → x.node ≡ h.node → (o : Option Body) → find w.equations x ≡ o → find w.equations x ≡ None
  none_of w f h m s x e None z = z
  none_of w f h m s x e (Some b) z =
      let (p, mp, xn, np) = f.joint.lefts x b z in
      let (q, mq, a) = row_for w.equations w.held f.config f.joint.pairs h m in
      let pq = f.joint.good.0.apart p q mp mq (sym xn ∙ (e ∙ a.node)) in
      never (np (ap (λ (r : Row). r.state) pq ∙ (sym a.state ∙ s)))

  pub fit_of : (w : Joint) → Fit w → IsFit w
  fit_of w f = record {
    open_free = λ h m s x e. none_of w f h m s x e (find w.equations x) refl;
    apart = held_apart w.equations w.held f.config f.joint.pairs f.in_order;
  }

  keep_on : (w w' : Joint) (x : Choice) (f : Fit w) (o : Option Joint) (o' : Option Config) → taken g f.config x (outcome g f.config x) ≡ o' → LikeStates g fit enter ok o o' → o ≡ Some w' → Fit w'
  keep_on w w' x f None o' e l t = absurd cc
  keep_on w w' x f (Some v) (Some d) e l t =
      subst Fit (same_Some _ _ t) (record { config = d; joint = l; in_order = taken-in_order f.config x (outcome g f.config x) d f.joint.good f.in_order refl e })
  keep_on w w' x f (Some v) None e l t = never l

  pub keep : (w w' : Joint) (x : Choice) → Fit w → joint_taken w x (joint_outcome w g x) ≡ Some w' → Fit w'
  keep w w' x f t =
      keep_on w w' x f (joint_taken w x (joint_outcome w g x)) (taken g f.config x (outcome g f.config x)) refl
      (step_lockstep g fit enter ok w f.config f.joint x (joint_outcome w g x) (outcome g f.config x) refl refl (answers_agree g fit enter ok w f.config f.joint x)) t

  pub fit_empty : Fit (empty_joint)
  fit_empty = record { config = []; joint = empty_lockstep g fit enter ok; in_order = tt }

  undivided-in_order : (c : Config) (xs : List Choice) (z : Config) → Good g fit (IO g) (io_closed g) ok c → IsInOrder c → undivided g c xs ≡ Some z → IsInOrder z
  undivided-in_order c [] z good i e = subst IsInOrder (same_Some _ _ e) i
  undivided-in_order c (x ∷ xs) z good i e =
      option_and_then_some (λ d. undivided g d xs) (taken g c x (outcome g c x)) z e
      (λ d t f. undivided-in_order d xs z (taken-good g fit (IO g) (io_closed g) ok c x (outcome g c x) d good refl t) (taken-in_order c x (outcome g c x) d good i refl t) f)

  whole_like : (o : Option Joint) (o' : Option Config) (c : Config) → LikeStates g fit enter ok o o' → o' ≡ Some c → (w : Joint) × (o ≡ Some w) × Lockstep g fit enter ok w c
  whole_like None None c l e = absurd cc
  whole_like (Some w) (Some d) c l e = (w, refl, subst (λ c. Lockstep g fit enter ok w c) (same_Some _ _ e) l)
  whole_like None (Some d) c l e = never l
  whole_like (Some w) None c l e = absurd cc

  -- a row of the one is a row of the other
  row_in : (w v : Joint) (c d : Config) → Lockstep g fit enter ok w c → Lockstep g fit enter ok v d → IsInOrder c → IsInOrder d → IsPartOf w v →
      IsPartOf v w → (p : Row) → Member p c → (q : Row) × Member q d × (p ≡ q)
  row_in w v c d J K i j wv vw p m =
      let (h, mh, a) = held_for w.equations w.held c J.pairs p m in
      let (h1, m1, e1, s1, r1, t1) = wv.held h mh in
      let (q, mq, b) = row_for v.equations v.held d K.pairs h1 m1 in
      let (h2, m2, e2, s2, r2, t2) = vw.held h1 m1 in
      let back = held_apart w.equations w.held c J.pairs i h2 h m2 mh (sym e2 ∙ sym e1) in
      let t2' = subst (λ (h2 : Held). Goes_on h1.state h2.state) back t2 in
      let st : h.state ≡ h1.state = both h.state h1.state t1 t2' in
      let fewer = λ (r : Ref) (e : find w.equations r ≡ None). go_none (find v.equations r) r refl e in
      let nd = sym a.node ∙ (e1 ∙ b.node) in
      let so = sym a.sort ∙ (s1 ∙ b.sort) in
      let sta = sym a.state ∙ (st ∙ b.state) in
      let inh = list_values w.equations v.equations wv.equations fewer h.inherited p.inherited q.inherited a.inherited (subst (λ rs. AllUnfold v.equations rs q.inherited) (sym r1) b.inherited) in
      let len : length p.results ≡ length q.results = J.good.0.many p m ∙ (ap (λ s. gives g s) so ∙ sym (K.good.0.many q mq)) in
      let res = list_same p.results q.results len (λ k t u x y.
      one_value w.equations v.equations wv.equations fewer (a.results (suc k) t x) u (subst (λ n. Unfolds v.equations (result n (suc k)) u) (sym e1) (b.results (suc k) u y))) in
      (q, mq, λ z. record { node = nd z; sort = so z; inherited = inh z; results = res z; state = sta z })
    where
      both : (s t : State) → Goes_on s t → Goes_on t s → s ≡ t
      both s t (inl a) (inl b) = a ∙ sym b
      both s t (inl a) (inr b) = sym b
      both s t (inr a) b = a

      go_none : (o : Option Body) (r : Ref) → find v.equations r ≡ o → find w.equations r ≡ None → find v.equations r ≡ None
      go_none None r e f = e
      go_none (Some b) r e f = let z = vw.equations r b e in absurd cc

  -- two lists of the same choices lead to one configuration
  pub same_configuration : (cs ds : List Choice) → ((x : Choice) → Member x cs → Member x ds) → ((x : Choice) → Member x ds → Member x cs) →
      (c d : Config) → undivided g [] cs ≡ Some c → undivided g [] ds ≡ Some d → c ≡ d
  same_configuration cs ds f h c d e e' =
      let (w, ew, J) = whole_like (joint_run g empty_joint cs) (undivided g [] cs) c (run_lockstep g fit enter ok cs (empty_joint) [] (empty_lockstep g fit enter ok)) e in
      let (v, ev, K) = whole_like (joint_run g empty_joint ds) (undivided g [] ds) d (run_lockstep g fit enter ok ds (empty_joint) [] (empty_lockstep g fit enter ok)) e' in
      let i = undivided-in_order [] cs c (empty_good g fit (IO g) (io_closed g) ok) tt e in
      let j = undivided-in_order [] ds d (empty_good g fit (IO g) (io_closed g) ok) tt e' in
      let vw = any_order g Fit fit_of keep fit_empty cs ds w v h ew ev in
      let wv = any_order g Fit fit_of keep fit_empty ds cs v w f ev ew in
      same_rows c d i j (row_in w v c d J K i j wv vw)
      (λ q m. let (p, mp, eq) = row_in v w d c K J j i vw wv q m in (p, mp, sym eq))
