-- Each reference with an equation has a value, and its leaves are results of pending rows.
use Rattle.std.proofs.Common.{◌≡◌, ℕ, suc, ◌<◌, ◌≤◌, List, [], ◌∷◌, ◌++◌, length, Some, refl, sym, subst, inl, inr}
use Rattle.aw_list.specs.Members.{Member}
use Rattle.aw_list.proofs.Members.{never, member_place}
use Rattle.aw_term.specs.Trees.{Never, Tree, Leaf, Made, Trees, Nil, More, In, Ins, bind}
use Rattle.aw_term.specs.Names.{Node, Ref, result, part}
use Rattle.aw_term.specs.Rules.{Term, Ground, Value, Child, Rule, get}
use Rattle.aw_term.specs.Configs.{Pending, Row, Config, env, nothing, rounds, develop}
use Rattle.aw_term.specs.WellFormed.{Each}
use Rattle.aw_store.specs.Equations.{Body, Equation, Map, find}
use Rattle.aw_store.specs.Unfold.{Unfolds, UnfoldAll, same, is, none, one}
use Rattle.aw_apply.specs.Made.{lay, lays, lay_list, lay_children, lay_result, lay_results, made}
use Rattle.aw_accept.proofs.ConfigLemmas.{In-rounds}
use Rattle.aw_accept.proofs.Developing.{Fate, sigma, fate_chain, fate_term, fate_new}
use Rattle.aw_law_sites.proofs.LeftSides.{find-left, lefts}
use Rattle.aw_store.proofs.MoreEquations.{Holds, Holds-left, Holds-right}
use Rattle.aw_law_sites.proofs.FlatSteps.{FlatTaking, value_changes, all_ok, made_holds, refs, Pairs-get}
use Rattle.aw_law_sites.proofs.AnyOrders.{option_cases}
use Rattle.aw_law_sites.proofs.Entering.{IsTermOf}
use Rattle.aw_term.proofs.Eaches.{each_append}

-- a result of a pending row
abbrev pub IsOpen : Config → Ref → Type 0
IsOpen c h = (p : Row) × (j : ℕ) × Member p c × (p.state ≡ Pending) × (h ≡ result p.node j) × (0 < j) × (j ≤ length p.results)

-- a reference has a value, whose leaves are results of pending rows
abbrev pub HasValue : Map → Config → Ref → Type 0
HasValue k c x = (t : Tree Ref) × Unfolds k x t × ((h : Ref) → In h t → IsOpen c h)

abbrev pub HaveValues : Map → Config → Type 0
HaveValues k c = (x : Ref) (b : Body) → find k x ≡ Some b → HasValue k c x

-- what is laid down has values where its leaves have
module _ {L : Type 0} (k : Map) (c : Config) (n : Node) (f : L → Ref) where
  abbrev LeftValues : List Equation → Type 0
  LeftValues es = Each (λ (e : Equation). HasValue k c e.left) es

  abbrev AllValues : List Ref → Type 0
  AllValues rs = (ts : Trees Ref) × UnfoldAll k rs ts × ((h : Ref) → Ins h ts → IsOpen c h)

  mutual
    pub lay-values : (t : Tree L) (i : ℕ) → Holds k (lay n f i t).equations → ((x : L) → In x t → HasValue k c (f x)) → HasValue k c (lay n f i t).roots × LeftValues (lay n f i t).equations
    lay-values (Leaf x) i h g = (g x refl, tt)
    lay-values (Made s ts) i h g =
        let ((us, d, o), es) = lays-values ts (suc i) h.1 g in
        ((Made s us, is h.0 d, o), ((Made s us, is h.0 d, o), es))

    pub lays-values : (ts : Trees L) (i : ℕ) → Holds k (lays n f i ts).equations → ((x : L) → Ins x ts → HasValue k c (f x)) → AllValues (lays n f i ts).roots × LeftValues (lays n f i ts).equations
    lays-values Nil i h g = ((Nil, none, λ h w. never w), tt)
    lays-values (More t ts) i h g =
        let a = lay n f i t in
        let b = lays n f a.next ts in
        let ((u, d, o), es) = lay-values t i (Holds-left k a.equations b.equations h) (λ x y. g x (inl y)) in
        let ((us, ds, os), fs) = lays-values ts a.next (Holds-right k a.equations b.equations h) (λ x y. g x (inr y)) in
        ((More u us, one d ds, λ h w. elim w [ inl v ↦ o h v | inr v ↦ os h v ]), each_append (λ (e : Equation). HasValue k c e.left) a.equations b.equations es fs)

  pub lay_list-values : (ts : List (Tree L)) (i : ℕ) → Holds k (lay_list n f i ts).equations → ((t : Tree L) → Member t ts → (x : L) → In x t →
      HasValue k c (f x)) → LeftValues (lay_list n f i ts).equations
  lay_list-values [] i h g = tt
  lay_list-values (t ∷ ts) i h g =
      let a = lay n f i t in
      let b = lay_list n f a.next ts in
      each_append (λ (e : Equation). HasValue k c e.left) a.equations b.equations (lay-values t i (Holds-left k a.equations b.equations h)
      (g t (inl refl))).1 (lay_list-values ts a.next (Holds-right k a.equations b.equations h) (λ t m. g t (inr m)))

module _ (k : Map) (c : Config) (n : Node) (f : ℕ → Ref) where
  lay_children-values : (ri : ℕ) (cs : List Child) (i l : ℕ) → Holds k (lay_children n ri f i l cs).equations →
      ((d : Child) → Member d cs → (t : Term) → Member t d.args → (v : ℕ) → In v t → HasValue k c (f v)) →
      LeftValues k c n f (lay_children n ri f i l cs).equations
  lay_children-values ri [] i l h g = tt
  lay_children-values ri (d ∷ cs) i l h g =
      let a = lay_list n f l d.args in
      let b = lay_children n ri f (suc i) a.next cs in
      each_append (λ (e : Equation). HasValue k c e.left) a.equations b.equations
      (lay_list-values k c n f d.args l (Holds-left k a.equations b.equations h) (g d (inl refl))) (lay_children-values ri cs (suc i) a.next
      (Holds-right k a.equations b.equations h) (λ d m. g d (inr m)))

  lay_result-values : (t : Term) (i j : ℕ) → Holds k (lay_result n f i j t).equations → ((v : ℕ) → In v t → HasValue k c (f v)) → LeftValues k c n f (lay_result n f i j t).equations
  lay_result-values (Leaf v) i j h g = let (u, d, o) = g v refl in ((u, same h.0 d, o), tt)
  lay_result-values (Made s ts) i j h g = let ((us, d, o), es) = lays-values k c n f ts i h.1 g in ((Made s us, is h.0 d, o), es)

  lay_results-values : (ts : List Term) (i j : ℕ) → Holds k (lay_results n f i j ts) → ((t : Term) → Member t ts → (v : ℕ) → In v t → HasValue k c (f v)) → LeftValues k c n f (lay_results n f i j ts)
  lay_results-values [] i j h g = tt
  lay_results-values (t ∷ ts) i j h g =
      let a = lay_result n f i j t in
      let b = lay_results n f a.next (suc j) ts in
      each_append (λ (e : Equation). HasValue k c e.left) a.equations b (lay_result-values t i j (Holds-left k a.equations b h) (g t (inl refl)))
      (lay_results-values ts a.next (suc j) (Holds-right k a.equations b h) (λ t m. g t (inr m)))

module _ (rel : ℕ → ℕ → ℕ → Type 0) (c : Config) (q : Row) (ri : ℕ) (r : Rule) (bs : List Value) (args : List Ground) (k : Map) (bound : List Ref) (T : FlatTaking rel c q ri r bs args k bound) where
  abbrev after : Config
  after = develop q.node ri r bs args c

  abbrev more_ : Map
  more_ = k ++ (made q.node ri r args bound).equations

  abbrev s : Ref → Value
  s = sigma rel c q ri r bs args T.plain

  abbrev values : List Value
  values = env q.node ri r bs args

  abbrev f : ℕ → Ref
  f = get (part q.node 0) (refs rel c q ri r bs args k bound T)

  rounds_open : (t : Tree Ref) → ((a : Ref) → In a t → Fate rel c q ri r bs args T.plain a) → (h : Ref) → In h (rounds (length r.results) (bind s) t) → IsOpen after h
  rounds_open t g h w =
      let (a, x, ch) = In-rounds (length r.results) s h t w in
      fate_new rel c q ri r bs args T.plain a h ch (g a x) (fate_chain rel c q ri r bs args T.plain ch (g a x))

  variable_value : (v : ℕ) → v < length values → HasValue more_ after (f v)
  variable_value v lt =
      let t = get nothing values v in
      let o = rounds_open t (λ a x. fate_term rel c q ri r bs args T.plain (Leaf v) a x) in
      elim (Pairs-get _ (part q.node 0) nothing (refs rel c q ri r bs args k bound T) values v (all_ok rel c q ri r bs args k bound T) lt) [
        | inl d ↦ (rounds (length r.results) (bind s) t, value_changes rel c q ri r bs args k bound T (f v) t d.0 d.1, o)
        | inr d ↦ (rounds (length r.results) (bind s) t, d (length r.results), o)
      ]

  term_values : (t : Term) → IsTermOf r t → (v : ℕ) → In v t → HasValue more_ after (f v)
  term_values t o v i = variable_value v (T.in_range t o v i)

  made_values : LeftValues more_ after q.node f (made q.node ri r args bound).equations
  made_values =
      let a = lay_list q.node (λ (x : Never). elim x [ ]) 1 args in
      let d = lay_children q.node ri f 1 a.next r.children in
      let e = lay_results q.node f d.next 1 r.results in
      let h = made_holds rel c q ri r bs args k bound T in
      let h' = Holds-right more_ a.equations (d.equations ++ e) h in
      each_append (λ (e : Equation). HasValue more_ after e.left) a.equations (d.equations ++ e)
      (lay_list-values more_ after q.node (λ (x : Never). elim x [ ]) args 1 (Holds-left more_ a.equations (d.equations ++ e) h) (λ t m x i. never x))
      (each_append (λ (e : Equation). HasValue more_ after e.left) d.equations e
      (lay_children-values more_ after q.node f ri r.children 1 a.next (Holds-left more_ d.equations e h') (λ d m t n v i. let (l, lt, z) =
      member_place r.children d m in term_values t (inr (l, d, z, n)) v i))
      (lay_results-values more_ after q.node f r.results d.next 1 (Holds-right more_ d.equations e h') (λ t m v i. term_values t (inl m) v i)))

  left_at : (es : List Equation) (x : Ref) → LeftValues more_ after q.node f es → Member x (lefts es) → HasValue more_ after x
  left_at [] x vs m = never m
  left_at (e ∷ es) x vs (inl z) = subst (HasValue more_ after) (sym z) vs.0
  left_at (e ∷ es) x vs (inr m) = left_at es x vs.1 m

  pub have_values : HaveValues k c → HaveValues more_ after
  have_values old x b e =
      elim (option_cases k (made q.node ri r args bound).equations x b (find k x) refl e) [
        | inl z ↦ (let (t, d, o) = old x b z in
            (rounds (length r.results) (bind s) t, value_changes rel c q ri r bs args k bound T x t d o, rounds_open t (λ a i. inl (o a i))))
        | inr z ↦ left_at (made q.node ri r args bound).equations x made_values (find-left (made q.node ri r args bound).equations x b z)
      ]
