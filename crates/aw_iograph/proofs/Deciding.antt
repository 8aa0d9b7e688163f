-- A list that decides a grammar is closed under its rules, and no rule has a circle over it.
use Rattle.std.proofs.Common.{◌≡◌, ℕ, zero, suc, ◌+◌, Bool, true, false, cond, List, [], ◌∷◌, Some, slice_get, refl, sym, ap, subst, inl, inr, arith, eq-eqb}
use Rattle.std.specs.Prelude.{◌⊎◌, ◌||◌, not, nat_eq}
use Rattle.std.proofs.lemmas.Bool.{eqb-true, and_parts, and_from}
use Rattle.aw_list.specs.Members.{Member}
use Rattle.aw_list.proofs.Members.{never, member_left, member_right}
use Rattle.aw_list.proofs.Everyday.{or_left, or_right}
use Rattle.aw_term.specs.Trees.{Never}
use Rattle.aw_term.specs.Rules.{Child, Rule, Grammar}
use Rattle.aw_iograph.specs.declared.occ.Occ.{Occ}
use Rattle.aw_iograph.specs.declared.occ.Flow.{Flow}
use Rattle.aw_iograph.specs.Graphs.{Plus, step, more}
use Rattle.aw_iograph.specs.Occurrences.{inherited, given, text_flows}
use Rattle.aw_iograph.specs.Dependence.{Edge, text, call, IsClosedUnder, HasNoCircle}
use Rattle.aw_iograph.proofs.TextFlows.{flows_all}
use Rattle.aw_iograph.specs.Decided.{Pair, Holds, all, any, pair_eq, bool_eq, occ_eq, calls_at, calls, flows, stands_in, reached, stays, is_listed, decides_from, decides_rule, decides}

pub all_member : {A : Type 0} (p : A → Bool) (xs : List A) (x : A) → all p xs ≡ true → Member x xs → p x ≡ true
all_member p [] x e m = never m
all_member p (y ∷ ys) x e (inl same) = subst (λ z. p z ≡ true) (sym same) (and_parts _ _ e).0
all_member p (y ∷ ys) x e (inr m) = all_member p ys x (and_parts _ _ e).1 m

pub or_true : (a b : Bool) → (a || b) ≡ true → (a ≡ true) ⊎ (b ≡ true)
or_true true b e = inl refl
or_true false b e = inr e

pub implied : (a b : Bool) → (not a || b) ≡ true → a ≡ true → b ≡ true
implied true b e f = e
implied false b e f = absurd cc

not_both : (a : Bool) → not a ≡ true → a ≡ true → Never
not_both true e f = absurd cc
not_both false e f = absurd cc

pub any_member : {A : Type 0} (p : A → Bool) (xs : List A) → any p xs ≡ true → (x : A) × Member x xs × (p x ≡ true)
any_member p [] e = absurd cc
any_member p (y ∷ ys) e = elim (or_true (p y) (any p ys) e) [
  | inl a ↦ (y, inl refl, a)
  | inr a ↦ (let (x, m, f) = any_member p ys a in (x, inr m, f))
]

bool_is : (a b : Bool) → bool_eq a b ≡ true → a ≡ b
bool_is true true e = refl
bool_is true false e = absurd cc
bool_is false true e = absurd cc
bool_is false false e = refl

bool_self : (a : Bool) → bool_eq a a ≡ true
bool_self true = refl
bool_self false = refl

occ_is : (a b : Occ) → occ_eq a b ≡ true → a ≡ b
occ_is a b e =
    let (c, f) = and_parts _ _ e in
    let (r, n) = and_parts _ _ f in
    let p = eqb-true a.child b.child c in
    let q = bool_is a.result b.result r in
    let s = eqb-true a.number b.number n in
    λ i. record { child = p i; result = q i; number = s i }

occ_self : (a : Occ) → occ_eq a a ≡ true
occ_self a = and_from _ _ (eq-eqb a.child a.child refl) (and_from _ _ (bool_self a.result) (eq-eqb a.number a.number refl))

pair_is : (a b : Pair) → pair_eq a b ≡ true → a ≡ b
pair_is a b e =
    let (c, f) = and_parts _ _ e in
    let (r, n) = and_parts _ _ f in
    let p = eqb-true a.sort b.sort c in
    let q = eqb-true a.i b.i r in
    let s = eqb-true a.j b.j n in
    λ k. record { sort = p k; i = q k; j = s k }

pub stands_member : (os : List Occ) (o : Occ) → stands_in os o ≡ true → Member o os
stands_member os o e = let (x, m, f) = any_member (occ_eq o) os e in subst (λ y. Member y os) (sym (occ_is o x f)) m

pub listed_member : (pairs : List Pair) (p : Pair) → any (pair_eq p) pairs ≡ true → Member p pairs
listed_member pairs p e = let (x, m, f) = any_member (pair_eq p) pairs e in subst (λ y. Member y pairs) (sym (pair_is p x f)) m

-- each step is a flow
module _ (pairs : List Pair) where
  cond_left : (b : Bool) (x f : Flow) (fs : List Flow) → b ≡ true → x ≡ f → Member x (cond b (f ∷ fs) fs)
  cond_left true x f fs e same = inl same
  cond_left false x f fs e same = absurd cc

  cond_right : (b : Bool) (x f : Flow) (fs : List Flow) → Member x fs → Member x (cond b (f ∷ fs) fs)
  cond_right true x f fs m = inr m
  cond_right false x f fs m = m

  at_child : (k s i j : ℕ) (ps : List Pair) → Holds ps s i j → Member (record { from = inherited k i; to = given k j }) (calls_at k s ps)
  at_child k s i j [] m = never m
  at_child k s i j (p ∷ ps) (inl e) =
      cond_left (nat_eq p.sort s) (record { from = inherited k i; to = given k j }) (record { from = inherited k p.i; to = given k p.j })
      (calls_at k s ps) (eq-eqb p.sort s (sym (ap (λ (p : Pair). p.sort) e)))
      (λ n. record { from = inherited k (e n).i; to = given k (e n).j })
  at_child k s i j (p ∷ ps) (inr m) = cond_right (nat_eq p.sort s) (record { from = inherited k i; to = given k j })
      (record { from = inherited k p.i; to = given k p.j }) (calls_at k s ps) (at_child k s i j ps m)

  at_children : (cs : List Child) (n k i j : ℕ) (c : Child) → slice_get cs k ≡ Some c → Holds pairs c.sort i j → Member (record { from = inherited (n + k) i; to = given (n + k) j }) (calls pairs n cs)
  at_children [] n k i j c e x = absurd cc
  at_children (d ∷ cs) n zero i j c e x =
      let z : n ≡ n + 0 = omega arith in
      let same : c ≡ d = cc in
      member_left _ (calls_at n d.sort pairs) (calls pairs (suc n) cs)
      (subst (λ m. Member (record { from = inherited m i; to = given m j }) (calls_at n d.sort pairs)) z (at_child n d.sort i j pairs (subst (λ (c : Child). Holds pairs c.sort i j) same x)))
  at_children (d ∷ cs) n (suc k) i j c e x =
      let z : suc n + k ≡ n + suc k = omega arith in
      member_right _ (calls_at n d.sort pairs) (calls pairs (suc n) cs)
      (subst (λ m. Member (record { from = inherited m i; to = given m j }) (calls pairs (suc n) cs)) z (at_children cs (suc n) k i j c e x))

  edge_flow : (r : Rule) {o u : Occ} → Edge r (Holds pairs) o u → Member (record { from = o; to = u }) (flows pairs r)
  edge_flow r {o} {u} (text v t a b x) = member_left _ (text_flows r) (calls pairs 1 r.children) (flows_all r o u v t a b x)
  edge_flow r (call zero i l c e x) = absurd cc
  edge_flow r (call (suc k) i l c e x) =
      let z : 1 + k ≡ suc k = omega arith in
      member_right _ (text_flows r) (calls pairs 1 r.children)
      (subst (λ m. Member (record { from = inherited m i; to = given m l }) (calls pairs 1 r.children)) z (at_children r.children 1 k i l c e x))

  member_stands : (a : Occ) (xs : List Occ) → Member a xs → stands_in xs a ≡ true
  member_stands a [] m = never m
  member_stands a (y ∷ ys) (inl same) = or_left (occ_eq a y) (stands_in ys a) (subst (λ z. occ_eq a z ≡ true) same (occ_self a))
  member_stands a (y ∷ ys) (inr m) = or_right (occ_eq a y) (stands_in ys a) (member_stands a ys m)

  begins : (a o : Occ) (os : List Occ) → (a ≡ o) ⊎ Member a os → (occ_eq a o || stands_in os a) ≡ true
  begins a o os (inl same) = or_left (occ_eq a o) (stands_in os a) (subst (λ z. occ_eq a z ≡ true) same (occ_self a))
  begins a o os (inr m) = or_right (occ_eq a o) (stands_in os a) (member_stands a os m)

  -- whatever is reached stands in a list out of which no step leads
  one_in : (r : Rule) (o : Occ) (os : List Occ) → stays (flows pairs r) o os ≡ true → (a u : Occ) → (a ≡ o) ⊎ Member a os → Edge r (Holds pairs) a u → Member u os
  one_in r o os e a u at x =
      stands_member os u (implied (occ_eq a o || stands_in os a) (stands_in os u)
      (all_member (λ (f : Flow). not (occ_eq f.from o || stands_in os f.from) || stands_in os f.to) (flows pairs r) (record { from = a; to = u }) e (edge_flow r x)) (begins a o os at))

  stays_in : (r : Rule) (o : Occ) (os : List Occ) → stays (flows pairs r) o os ≡ true → {a u : Occ} → (a ≡ o) ⊎ Member a os → Plus (Edge r (Holds pairs)) a u → Member u os
  stays_in r o os e {a} {u} at (step x) = one_in r o os e a u at x
  stays_in r o os e {a} at (more {b = b} x w) = stays_in r o os e (inr (one_in r o os e a b at x)) w

  first_flow : (r : Rule) {o u : Occ} → Plus (Edge r (Holds pairs)) o u → (f : Flow) × Member f (flows pairs r) × (f.from ≡ o)
  first_flow r (step x) = (_, edge_flow r x, refl)
  first_flow r (more x w) = (_, edge_flow r x, refl)

  from_first : (r : Rule) → decides_rule pairs r ≡ true → {o u : Occ} → Plus (Edge r (Holds pairs)) o u → decides_from pairs r.sort (flows pairs r) o (reached (flows pairs r) o) ≡ true
  from_first r e w =
      let (f, m, same) = first_flow r w in
      subst (λ o. decides_from pairs r.sort (flows pairs r) o (reached (flows pairs r) o) ≡ true) same
      (all_member (λ (f : Flow). decides_from pairs r.sort (flows pairs r) f.from (reached (flows pairs r) f.from)) (flows pairs r) f e m)

  walk_stays : (r : Rule) → decides_rule pairs r ≡ true → {o u : Occ} → Plus (Edge r (Holds pairs)) o u → Member u (reached (flows pairs r) o)
  walk_stays r e {o} w = stays_in r o (reached (flows pairs r) o) (and_parts _ _ (from_first r e w)).0 (inl refl) w

  rule_none : (r : Rule) → decides_rule pairs r ≡ true → (o : Occ) → Plus (Edge r (Holds pairs)) o o → Never
  rule_none r e o w = not_both (stands_in (reached (flows pairs r) o) o) (and_parts _ _ (and_parts _ _ (from_first r e w)).1).0 (member_stands o (reached (flows pairs r) o) (walk_stays r e w))

  rule_kept : (r : Rule) → decides_rule pairs r ≡ true → (i j : ℕ) → Plus (Edge r (Holds pairs)) (inherited 0 i) (given 0 j) → Holds pairs r.sort i j
  rule_kept r e i j w =
      listed_member pairs (record { sort = r.sort; i = i; j = j })
      (all_member (is_listed pairs r.sort (inherited 0 i)) (reached (flows pairs r) (inherited 0 i)) (given 0 j) (and_parts _ _ (and_parts _ _ (from_first r e w)).1).1 (walk_stays r e w))

pub decided_closed : (g : Grammar) (pairs : List Pair) → decides pairs g.rules ≡ true → IsClosedUnder g (Holds pairs)
decided_closed g pairs e r m i j w = rule_kept pairs r (all_member (decides_rule pairs) g.rules r e m) i j w

pub decided_none : (g : Grammar) (pairs : List Pair) → decides pairs g.rules ≡ true → HasNoCircle g (Holds pairs)
decided_none g pairs e r m o w = rule_none pairs r (all_member (decides_rule pairs) g.rules r e m) o w
