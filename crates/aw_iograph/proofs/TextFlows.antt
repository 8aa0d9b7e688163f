-- The flows of a rule's text are its text edges.
use Rattle.std.proofs.Common.{◌≡◌, ℕ, zero, suc, ◌+◌, Bool, true, false, List, [], ◌∷◌, Option, Some, None, slice_get, refl, sym, ap, ◌∙◌, subst, inl, inr, arith}
use Rattle.std.specs.Prelude.{option_and_then}
use Rattle.aw_list.specs.Members.{Member}
use Rattle.aw_list.proofs.Members.{never, member_left, member_right, member_split}
use Rattle.aw_term.specs.Trees.{Tree, Leaf, Made, Trees, Nil, More, In, Ins}
use Rattle.aw_term.specs.Rules.{Term, Child, Rule, get}
use Rattle.aw_term.specs.WellFormed.{leaves, all_leaves}
use Rattle.aw_iograph.specs.declared.occ.Occ.{Occ}
use Rattle.aw_iograph.specs.declared.occ.Flow.{Flow}
use Rattle.aw_iograph.specs.Occurrences.{inherited, given, item, entries, argument_at, result_at, term_at, flow_to, flows_to, term_flows, child_flows, text_flows}

mutual
  pub leaf_there : {A : Type 0} (x : A) (t : Tree A) → In x t → Member x (leaves t)
  leaf_there x (Leaf y) e = inl e
  leaf_there x (Made h ts) m = leaf_there_all x ts m

  leaf_there_all : {A : Type 0} (x : A) (ts : Trees A) → Ins x ts → Member x (all_leaves ts)
  leaf_there_all x Nil m = never m
  leaf_there_all x (More t ts) (inl m) = member_left x (leaves t) (all_leaves ts) (leaf_there x t m)
  leaf_there_all x (More t ts) (inr m) = member_right x (leaves t) (all_leaves ts) (leaf_there_all x ts m)

mutual
  leaf_in : {A : Type 0} (x : A) (t : Tree A) → Member x (leaves t) → In x t
  leaf_in x (Leaf y) (inl e) = e
  leaf_in x (Leaf y) (inr m) = never m
  leaf_in x (Made h ts) m = leaf_in_all x ts m

  leaf_in_all : {A : Type 0} (x : A) (ts : Trees A) → Member x (all_leaves ts) → Ins x ts
  leaf_in_all x Nil m = never m
  leaf_in_all x (More t ts) m = elim (member_split x (leaves t) (all_leaves ts) m) [ inl a ↦ inl (leaf_in x t a) | inr b ↦ inr (leaf_in_all x ts b) ]

flow_there : (es : List (Option Occ)) (o u : Occ) (vs : List ℕ) (v : ℕ) → Member v vs → get None es v ≡ Some o → Member (record { from = o; to = u }) (flows_to es u vs)
flow_there es o u [] v m e = never m
flow_there es o u (w ∷ ws) v (inl same) e =
    member_left (record { from = o; to = u }) (flow_to (get None es w) u) (flows_to es u ws)
    (subst (λ (x : Option Occ). Member (record { from = o; to = u }) (flow_to x u)) (sym e ∙ ap (get None es) same) (inl refl))
flow_there es o u (w ∷ ws) v (inr m) e = member_right (record { from = o; to = u }) (flow_to (get None es w) u) (flows_to es u ws) (flow_there es o u ws v m e)

term_there : (es : List (Option Occ)) (f : Flow) (k : ℕ) (b : Bool) (ts : List Term) (n i : ℕ) (t : Term) → slice_get ts i ≡ Some t →
    Member f (flows_to es (record { child = k; result = b; number = n + i }) (leaves t)) → Member f (term_flows es k b n ts)
term_there es f k b [] n i t e m = absurd cc
term_there es f k b (x ∷ xs) n zero t e m =
    let same : t ≡ x = cc in let at : n + 0 ≡ n = omega arith in
    member_left f (flows_to es (record { child = k; result = b; number = n }) (leaves x)) (term_flows es k b (suc n) xs)
    (subst (λ (y : Term). Member f (flows_to es (record { child = k; result = b; number = n }) (leaves y))) same
    (subst (λ (z : ℕ). Member f (flows_to es (record { child = k; result = b; number = z }) (leaves t))) at m))
term_there es f k b (x ∷ xs) n (suc i) t e m =
    let at : n + suc i ≡ suc n + i = omega arith in
    member_right f (flows_to es (record { child = k; result = b; number = n }) (leaves x)) (term_flows es k b (suc n) xs)
    (term_there es f k b xs (suc n) i t e (subst (λ (z : ℕ). Member f (flows_to es (record { child = k; result = b; number = z }) (leaves t))) at m))

pub child_there : (es : List (Option Occ)) (f : Flow) (cs : List Child) (n k : ℕ) (c : Child) → slice_get cs k ≡ Some c →
    Member f (term_flows es (n + k) false 1 c.args) → Member f (child_flows es n cs)
child_there es f [] n k c e m = absurd cc
child_there es f (x ∷ xs) n zero c e m =
    let same : c ≡ x = cc in let at : n + 0 ≡ n = omega arith in
    member_left f (term_flows es n false 1 x.args) (child_flows es (suc n) xs)
    (subst (λ (y : Child). Member f (term_flows es n false 1 y.args)) same (subst (λ (z : ℕ). Member f (term_flows es z false 1 c.args)) at m))
child_there es f (x ∷ xs) n (suc k) c e m =
    let at : n + suc k ≡ suc n + k = omega arith in
    member_right f (term_flows es n false 1 x.args) (child_flows es (suc n) xs)
    (child_there es f xs (suc n) k c e (subst (λ (z : ℕ). Member f (term_flows es z false 1 c.args)) at m))

argument_got : (r : Rule) (k i : ℕ) (t : Term) → argument_at r k i ≡ Some t → (j : ℕ) × (m : ℕ) × (c : Child) × (k ≡ suc j) × (i ≡ suc m)
    × (slice_get r.children j ≡ Some c) × (slice_get c.args m ≡ Some t)
argument_got r zero i t e = absurd cc
argument_got r (suc j) i t e = at (slice_get r.children j) refl e
  where
    numbered : (c : Child) (i : ℕ) → slice_get r.children j ≡ Some c → item c.args i ≡ Some t → (j' : ℕ) × (m : ℕ) × (d : Child) × (suc j ≡ suc j')
        × (i ≡ suc m) × (slice_get r.children j' ≡ Some d) × (slice_get d.args m ≡ Some t)
    numbered c zero g h = absurd cc
    numbered c (suc m) g h = (j, m, c, refl, refl, g, h)

    at : (found : Option Child) → slice_get r.children j ≡ found → option_and_then (λ (c : Child). item c.args i) found ≡ Some t → (j' : ℕ) × (m : ℕ)
        × (d : Child) × (suc j ≡ suc j') × (i ≡ suc m) × (slice_get r.children j' ≡ Some d) × (slice_get d.args m ≡ Some t)
    at None g h = absurd cc
    at (Some c) g h = numbered c i g h

result_got : (r : Rule) (k j : ℕ) (t : Term) → result_at r k j ≡ Some t → (m : ℕ) × (k ≡ 0) × (j ≡ suc m) × (slice_get r.results m ≡ Some t)
result_got r zero zero t e = absurd cc
result_got r zero (suc m) t e = (m, refl, refl, e)
result_got r (suc k) j t e = absurd cc

-- where a term stands
pub data Stands (r : Rule) (t : Term) : Occ → Type 0 where
  argument : (k i : ℕ) → (c : Child) → slice_get r.children k ≡ Some c → slice_get c.args i ≡ Some t → Stands r t (inherited (suc k) (suc i))
  outcome : (j : ℕ) → slice_get r.results j ≡ Some t → Stands r t (given 0 (suc j))

stands_at : (r : Rule) (t : Term) (k : ℕ) (b : Bool) (n : ℕ) → term_at r (record { child = k; result = b; number = n }) ≡ Some t → Stands r t (record { child = k; result = b; number = n })
stands_at r t k true n e =
    let (m, z, s, g) = result_got r k n t e in
    subst (λ (x : ℕ). Stands r t (record { child = x; result = true; number = n })) (sym z) (subst (λ (x : ℕ). Stands r t (record { child = 0; result = true; number = x })) (sym s) (outcome m g))
stands_at r t k false n e =
    let (j, m, c, z, s, g, h) = argument_got r k n t e in
    subst (λ (x : ℕ). Stands r t (record { child = x; result = false; number = n })) (sym z)
    (subst (λ (x : ℕ). Stands r t (record { child = suc j; result = false; number = x })) (sym s) (argument j m c g h))

pub stands : (r : Rule) (t : Term) (u : Occ) → term_at r u ≡ Some t → Stands r t u
stands r t u e = stands_at r t u.child u.result u.number e

flows_stand : (r : Rule) (o u : Occ) (v : ℕ) (t : Term) → get None (entries r) v ≡ Some o → Stands r t u → In v t → Member (record { from = o; to = u }) (text_flows r)
flows_stand r o u v t e (argument k i c g h) x =
    member_left _ (child_flows (entries r) 1 r.children) (term_flows (entries r) 0 true 1 r.results)
    (child_there (entries r) _ r.children 1 k c g (let k' : suc k ≡ 1 + k = omega arith in
    subst (λ (z : ℕ). Member (record { from = o; to = inherited (suc k) (suc i) }) (term_flows (entries r) z false 1 c.args)) k'
    (term_there (entries r) _ (suc k) false c.args 1 i t h (let i' : suc i ≡ 1 + i = omega arith in
    subst (λ (z : ℕ). Member (record { from = o; to = inherited (suc k) (suc i) }) (flows_to (entries r) (inherited (suc k) z) (leaves t))) i'
    (flow_there (entries r) o (inherited (suc k) (suc i)) (leaves t) v (leaf_there v t x) e)))))
flows_stand r o u v t e (outcome j h) x =
    member_right _ (child_flows (entries r) 1 r.children) (term_flows (entries r) 0 true 1 r.results)
    (term_there (entries r) _ 0 true r.results 1 j t h (let j' : suc j ≡ 1 + j = omega arith in
    subst (λ (z : ℕ). Member (record { from = o; to = given 0 (suc j) }) (flows_to (entries r) (given 0 z) (leaves t))) j'
    (flow_there (entries r) o (given 0 (suc j)) (leaves t) v (leaf_there v t x) e)))

-- each text edge is a flow
pub flows_all : (r : Rule) (o u : Occ) (v : ℕ) (t : Term) → get None (entries r) v ≡ Some o → term_at r u ≡ Some t → In v t → Member (record { from = o; to = u }) (text_flows r)
flows_all r o u v t e f x = flows_stand r o u v t e (stands r t u f) x

flow_only : (es : List (Option Occ)) (u : Occ) (vs : List ℕ) (f : Flow) → Member f (flows_to es u vs) → (v : ℕ) × Member v vs × (get None es v ≡ Some f.from) × (f.to ≡ u)
flow_only es u [] f m = never m
flow_only es u (w ∷ ws) f m = elim (member_split f (flow_to (get None es w) u) (flows_to es u ws) m) [
  | inl a ↦ (let (e, t) = here (get None es w) a in (w, inl refl, e, t))
  | inr b ↦ (let (v, n, e, t) = flow_only es u ws f b in (v, inr n, e, t))
]
  where
    here : (x : Option Occ) → Member f (flow_to x u) → (x ≡ Some f.from) × (f.to ≡ u)
    here None m = never m
    here (Some o) (inl same) = (ap (λ (g : Flow). Some g.from) (sym same), ap (λ (g : Flow). g.to) same)
    here (Some o) (inr m) = never m

term_only : (es : List (Option Occ)) (k : ℕ) (b : Bool) (ts : List Term) (n : ℕ) (f : Flow) → Member f (term_flows es k b n ts) →
    (i : ℕ) × (t : Term) × (v : ℕ) × (slice_get ts i ≡ Some t) × In v t × (get None es v ≡ Some f.from) × (f.to ≡ record { child = k; result = b; number = n + i })
term_only es k b [] n f m = never m
term_only es k b (x ∷ xs) n f m = elim (member_split f (flows_to es (record { child = k; result = b; number = n }) (leaves x)) (term_flows es k b (suc n) xs) m) [
  | inl a ↦ (let (v, w, e, t) = flow_only es (record { child = k; result = b; number = n }) (leaves x) f a in
      let z : n ≡ n + 0 = omega arith in (0, x, v, refl, leaf_in v x w, e, t ∙ ap (λ (y : ℕ). record { child = k; result = b; number = y }) z))
  | inr c ↦ (let (i, t, v, g, w, e, p) = term_only es k b xs (suc n) f c in
      let z : suc n + i ≡ n + suc i = omega arith in (suc i, t, v, g, w, e, p ∙ ap (λ (y : ℕ). record { child = k; result = b; number = y }) z))
]

pub child_only : (es : List (Option Occ)) (cs : List Child) (n : ℕ) (f : Flow) → Member f (child_flows es n cs) → (k : ℕ) × (c : Child)
    × (slice_get cs k ≡ Some c) × Member f (term_flows es (n + k) false 1 c.args)
child_only es [] n f m = never m
child_only es (x ∷ xs) n f m = elim (member_split f (term_flows es n false 1 x.args) (child_flows es (suc n) xs) m) [
  | inl a ↦ (let z : n ≡ n + 0 = omega arith in (0, x, refl, subst (λ (y : ℕ). Member f (term_flows es y false 1 x.args)) z a))
  | inr b ↦ (let (k, c, g, w) = child_only es xs (suc n) f b in let z : suc n + k ≡ n + suc k = omega arith in (suc k, c, g, subst (λ (y : ℕ). Member f (term_flows es y false 1 c.args)) z w))
]

-- each flow is a text edge
pub flows_only : (r : Rule) (f : Flow) → Member f (text_flows r) → (v : ℕ) × (t : Term) × (get None (entries r) v ≡ Some f.from) × (term_at r f.to ≡ Some t) × In v t
flows_only r f m = elim (member_split f (child_flows (entries r) 1 r.children) (term_flows (entries r) 0 true 1 r.results) m) [
  | inl a ↦ (let (k, c, g, w) = child_only (entries r) r.children 1 f a in let (i, t, v, h, x, e, p) = term_only (entries r) (1 + k) false c.args 1 f w in
      let k' : 1 + k ≡ suc k = omega arith in let i' : 1 + i ≡ suc i = omega arith in
      let q : f.to ≡ inherited (suc k) (suc i) = p ∙ ap (λ (y : ℕ). inherited y (1 + i)) k' ∙ ap (λ (y : ℕ). inherited (suc k) y) i' in
      (v, t, e, ap (term_at r) q ∙ (ap (option_and_then (λ (d : Child). item d.args (suc i))) g ∙ h), x))
  | inr b ↦ (let (j, t, v, h, x, e, p) = term_only (entries r) 0 true r.results 1 f b in
      let j' : 1 + j ≡ suc j = omega arith in
      (v, t, e, ap (term_at r) (p ∙ ap (λ (y : ℕ). given 0 y) j') ∙ h, x))
]
