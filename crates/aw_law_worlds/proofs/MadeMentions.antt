-- What the equations of a choice mention.
use Rattle.aw_iograph.specs.declared.occ.Occ.{Occ}
use Rattle.std.proofs.Common.{List, None, Option, Some, [], ap, arith, inl, inr, length, length-append, map, refl, subst, suc, sym, zero, ℕ, ◌++◌, ◌+◌, ◌<◌, ◌∙◌, ◌∷◌, ◌≡◌, ◌≤◌}
use Rattle.std.specs.Prelude.{replicate, slice_get}
use Rattle.std.proofs.lemmas.List.{length-replicate}
use Rattle.aw_list.specs.Members.{Member}
use Rattle.aw_list.proofs.Members.{member_got, member_left, member_right, member_split, member_unmap, never}
use Rattle.aw_term.specs.Names.{Node, Ref, below, part, result}
use Rattle.aw_term.specs.Rules.{Child, Grammar, Ground, Rule, Term, get, upto}
use Rattle.aw_term.specs.Trees.{In, Ins, Leaf, Made, More, Never, Nil, Tree, Trees}
use Rattle.aw_iograph.specs.Occurrences.{child_entries, entries, given, pattern_entries}
use Rattle.aw_accept.proofs.ConfigLemmas.{upto-bound, upto-low}
use Rattle.aw_store.specs.Equations.{Equation, mentions}
use Rattle.aw_apply.specs.Made.{Call, Laid, child_refs, lay, lay_children, lay_list, lay_result, lay_results, lays, made}
use Rattle.aw_law_sites.proofs.Entering.{IsTermOf, VariablesEnter}
use Rattle.aw_law_worlds.specs.Mentioned.{IsPartSlot}
use Rattle.aw_law_worlds.proofs.Lists.{length-mapped}

roots-length : {L : Type 0} (n : Node) (f : L → Ref) (i : ℕ) (ts : List (Tree L)) → length (lay_list n f i ts).roots ≡ length ts
roots-length n f i [] = refl
roots-length n f i (t ∷ ts) = ap suc (roots-length n f (lay n f i t).next ts)

kids-length : (n : Node) (r k : ℕ) (cs : List Child) → length (child_refs n r k cs) ≡ length (child_entries k cs)
kids-length n r k [] = refl
kids-length n r k (c ∷ cs) =
    let x = length-mapped (result (below n r k)) (upto 1 c.outs) ∙ sym (length-mapped (λ l. Some (given k l)) (upto 1 c.outs)) in
    let y = kids-length n r (suc k) cs in
    length-append (map (result (below n r k)) (upto 1 c.outs)) (child_refs n r (suc k) cs)
    ∙ ((λ i. x i + y i) ∙ sym (length-append (map (λ l. Some (given k l)) (upto 1 c.outs)) (child_entries (suc k) cs)))

kids-member : (n : Node) (r k : ℕ) (cs : List Child) (u : Ref) → Member u (child_refs n r k cs) → (i : ℕ) × (c : Child) × (l : ℕ)
    × (slice_get cs i ≡ Some c) × (0 < l) × (l ≤ c.outs) × (u ≡ result (below n r (k + i)) l)
kids-member n r k [] u m = never m
kids-member n r k (c ∷ cs) u m = elim (member_split u (map (result (below n r k)) (upto 1 c.outs)) (child_refs n r (suc k) cs) m) [
  | inl o ↦ (let (l, j, p) = member_unmap (result (below n r k)) u (upto 1 c.outs) o in
      let z : k ≡ k + 0 = omega arith in
      let b = upto-bound 1 c.outs l j in
      (0, c, l, refl, upto-low 1 c.outs l j, omega (arith, b), p ∙ ap (λ k. result (below n r k) l) z))
  | inr o ↦ (let (i, d, l, f, lo, b, p) = kids-member n r (suc k) cs u o in
      let z : suc k + i ≡ k + suc i = omega arith in
      (suc i, d, l, f, lo, b, p ∙ ap (λ k. result (below n r k) l) z))
]

get-within : (P : Ref → Type 0) (d : Ref) (rs : List Ref) (v : ℕ) → ((r : Ref) → Member r rs → P r) → v < length rs → P (get d rs v)
get-within P d [] v f l = absurd (omega arith)
get-within P d (r ∷ rs) zero f l = f r (inl refl)
get-within P d (r ∷ rs) (suc v) f l = get-within P d rs v (λ r m. f r (inr m)) (omega arith)

-- what is laid mentions its leaves and its own parts
abbrev pub LeftsIn : (Ref → Type 0) → List Equation → Type 0
LeftsIn P es = (e : Equation) → Member e es → IsPartSlot e.left.slot → P e.left

abbrev pub MentionsIn : (Ref → Type 0) → List Equation → Type 0
MentionsIn P es = (e : Equation) → Member e es → (r : Ref) → Member r (mentions e.body) → P r

both_in : (P : Ref → Type 0) (es fs : List Equation) → MentionsIn P es → MentionsIn P fs → MentionsIn P (es ++ fs)
both_in P es fs a b e m = elim (member_split e es fs m) [ inl o ↦ a e o | inr o ↦ b e o ]

left_in : (P : Ref → Type 0) (es fs : List Equation) → LeftsIn P (es ++ fs) → LeftsIn P es
left_in P es fs a e m = a e (member_left e es fs m)

right_in : (P : Ref → Type 0) (es fs : List Equation) → LeftsIn P (es ++ fs) → LeftsIn P fs
right_in P es fs a e m = a e (member_right e es fs m)

module _ {L : Type 0} (n : Node) (f : L → Ref) (P : Ref → Type 0) where
  mutual
    lay-in : (t : Tree L) (i : ℕ) → ((x : L) → In x t → P (f x)) → LeftsIn P (lay n f i t).equations → P (lay n f i t).roots × MentionsIn P (lay n f i t).equations
    lay-in (Leaf x) i h p = (h x refl, λ e m. never m)
    lay-in (Made c ts) i h p =
        let (a, b) = lays-in ts (suc i) h (λ e m. p e (inr m)) in
        (p _ (inl refl) tt, λ e m r j. elim m [ inl q ↦ a r (subst (λ (e : Equation). Member r (mentions e.body)) q j) | inr o ↦ b e o r j ])

    lays-in : (ts : Trees L) (i : ℕ) → ((x : L) → Ins x ts → P (f x)) → LeftsIn P (lays n f i ts).equations →
        ((r : Ref) → Member r (lays n f i ts).roots → P r) × MentionsIn P (lays n f i ts).equations
    lays-in Nil i h p = (λ r m. never m, λ e m. never m)
    lays-in (More t ts) i h p =
        let (a, b) = lay-in t i (λ x m. h x (inl m)) (left_in P (lay n f i t).equations (lays n f (lay n f i t).next ts).equations p) in
        let (c, d) = lays-in ts (lay n f i t).next (λ x m. h x (inr m)) (right_in P (lay n f i t).equations (lays n f (lay n f i t).next ts).equations p) in
        (λ r m. elim m [ inl q ↦ subst P (sym q) a | inr o ↦ c r o ], both_in P (lay n f i t).equations (lays n f (lay n f i t).next ts).equations b d)

  pub lay_list-in : (ts : List (Tree L)) (i : ℕ) → ((t : Tree L) → Member t ts → (x : L) → In x t → P (f x)) →
      LeftsIn P (lay_list n f i ts).equations → ((r : Ref) → Member r (lay_list n f i ts).roots → P r) × MentionsIn P (lay_list n f i ts).equations
  lay_list-in [] i h p = (λ r m. never m, λ e m. never m)
  lay_list-in (t ∷ ts) i h p =
      let (a, b) = lay-in t i (h t (inl refl)) (left_in P (lay n f i t).equations (lay_list n f (lay n f i t).next ts).equations p) in
      let (c, d) = lay_list-in ts (lay n f i t).next (λ t m. h t (inr m)) (right_in P (lay n f i t).equations (lay_list n f (lay n f i t).next ts).equations p) in
      (λ r m. elim m [ inl q ↦ subst P (sym q) a | inr o ↦ c r o ], both_in P (lay n f i t).equations (lay_list n f (lay n f i t).next ts).equations b d)

module _ (n : Node) (ri : ℕ) (f : ℕ → Ref) (P : Ref → Type 0) where
  lay_children-in : (cs : List Child) (i k : ℕ) → ((j : ℕ) (d : Child) → slice_get cs j ≡ Some d → (t : Term) → Member t d.args → (v : ℕ) → In v t →
      P (f v)) → LeftsIn P (lay_children n ri f i k cs).equations
      → ((c : Call) → Member c (lay_children n ri f i k cs).roots → (r : Ref) → Member r c.inherited → P r) × MentionsIn P (lay_children n ri f i k cs).equations
  lay_children-in [] i k h p = (λ c m. never m, λ e m. never m)
  lay_children-in (d ∷ cs) i k h p =
      let (a, b) = lay_list-in n f P d.args k (h 0 d refl) (left_in P (lay_list n f k d.args).equations (lay_children n ri f (suc i) (lay_list n f k d.args).next cs).equations p) in
      let (u, v) = lay_children-in cs (suc i) (lay_list n f k d.args).next (λ j d e. h (suc j) d e) (right_in P (lay_list n f k d.args).equations
      (lay_children n ri f (suc i) (lay_list n f k d.args).next cs).equations p) in (
        λ c m r j. elim m [ inl q ↦ a r (subst (λ (c : Call). Member r c.inherited) q j) | inr o ↦ u c o r j ],
        both_in P (lay_list n f k d.args).equations (lay_children n ri f (suc i) (lay_list n f k d.args).next cs).equations b v,
      )

  lay_result-in : (t : Term) (k j : ℕ) → ((v : ℕ) → In v t → P (f v)) → LeftsIn P (lay_result n f k j t).equations → MentionsIn P (lay_result n f k j t).equations
  lay_result-in (Leaf v) k j h p e (inl q) r m = elim (subst (λ (e : Equation). Member r (mentions e.body)) q m) [ inl z ↦ subst P (sym z) (h v refl) | inr z ↦ never z ]
  lay_result-in (Leaf v) k j h p e (inr q) r m = never q
  lay_result-in (Made c ts) k j h p e m r i =
      let (a, b) = lays-in n f P ts k h (λ e m. p e (inr m)) in
      elim m [ inl q ↦ a r (subst (λ (e : Equation). Member r (mentions e.body)) q i) | inr o ↦ b e o r i ]

  lay_results-in : (ts : List Term) (k j : ℕ) → ((t : Term) → Member t ts → (v : ℕ) → In v t → P (f v)) → LeftsIn P (lay_results n f k j ts) → MentionsIn P (lay_results n f k j ts)
  lay_results-in [] k j h p = λ e m. never m
  lay_results-in (t ∷ ts) k j h p =
      both_in P (lay_result n f k j t).equations (lay_results n f (lay_result n f k j t).next (suc j) ts)
      (lay_result-in t k j (h t (inl refl)) (left_in P (lay_result n f k j t).equations (lay_results n f (lay_result n f k j t).next (suc j) ts) p))
      (lay_results-in ts (lay_result n f k j t).next (suc j) (λ t m. h t (inr m)) (right_in P (lay_result n f k j t).equations (lay_results n f (lay_result n f k j t).next (suc j) ts) p))

-- a property of references that a choice keeps
module _ (g : Grammar) (enter : VariablesEnter g) (n : Node) (ri : ℕ) (rule : Rule) (rule_is : slice_get g.rules ri ≡ Some rule) (args : List Ground)
    (given : length args ≡ rule.params) (bound : List Ref) (many : length bound ≡ length (pattern_entries 1 rule.patterns))
    (P : Ref → Type 0) (old : (r : Ref) → Member r bound → P r) (own : LeftsIn P (made n ri rule args bound).equations)
    (kids : (i : ℕ) (c : Child) (l : ℕ) → slice_get rule.children i ≡ Some c → 0 < l → l ≤ c.outs → P (result (below n ri (1 + i)) l)) where
  abbrev a0 : Laid (List Ref)
  a0 = lay_list n (λ (x : Never). elim x [ ]) 1 args

  abbrev refs0 : List Ref
  refs0 = bound ++ (a0.roots ++ child_refs n ri 1 rule.children)

  abbrev c0 : Laid (List Call)
  c0 = lay_children n ri (get (part n 0) refs0) 1 a0.next rule.children

  abbrev r0 : List Equation
  r0 = lay_results n (get (part n 0) refs0) c0.next 1 rule.results

  args_in : ((r : Ref) → Member r a0.roots → P r) × MentionsIn P a0.equations
  args_in = lay_list-in n (λ (x : Never). elim x [ ]) P args 1 (λ t m x i. never x) (left_in P a0.equations (c0.equations ++ r0) own)

  all_refs : (r : Ref) → Member r refs0 → P r
  all_refs r m = elim (member_split r bound (a0.roots ++ child_refs n ri 1 rule.children) m) [
    | inl o ↦ old r o
    | inr o ↦ elim (member_split r a0.roots (child_refs n ri 1 rule.children) o) [
      | inl u ↦ args_in.0 r u
      | inr u ↦ (let (i, c, l, f, lo, b, p) = kids-member n ri 1 rule.children r u in subst P (sym p) (kids i c l f lo b))
    ]
  ]

  refs-length : length refs0 ≡ length (entries rule)
  refs-length =
      let x = length-append bound (a0.roots ++ child_refs n ri 1 rule.children) in
      let y = length-append a0.roots (child_refs n ri 1 rule.children) in
      let z = roots-length n (λ (x : Never). elim x [ ]) 1 args in
      let u = kids-length n ri 1 rule.children in
      let x' = length-append (pattern_entries 1 rule.patterns) (replicate rule.params None ++ child_entries 1 rule.children) in
      let y' = length-append (replicate rule.params None) (child_entries 1 rule.children) in
      let z' = length-replicate {A = Option Occ} rule.params None in
      omega (arith, x, y, z, u, x', y', z', many, given)

  var_in : (t : Term) → IsTermOf rule t → (v : ℕ) → In v t → P (get (part n 0) refs0 v)
  var_in t o v i =
      let l = enter rule (member_got g.rules ri rule rule_is) t o v i in
      get-within P (part n 0) refs0 v all_refs (omega (arith, l, refs-length))

  kids_in : ((c : Call) → Member c c0.roots → (r : Ref) → Member r c.inherited → P r) × MentionsIn P c0.equations
  kids_in = lay_children-in n ri (get (part n 0) refs0) P rule.children 1 a0.next (λ j d e t m v i. var_in t (inr (j, d, e, m)) v i)
      (left_in P c0.equations r0 (right_in P a0.equations (c0.equations ++ r0) own))

  pub made-in : ((c : Call) → Member c (made n ri rule args bound).calls → (r : Ref) → Member r c.inherited → P r) × MentionsIn P (made n ri rule args bound).equations
  made-in = (
    kids_in.0,
    both_in P a0.equations (c0.equations ++ r0) args_in.1 (both_in P c0.equations r0 kids_in.1
        (lay_results-in n ri (get (part n 0) refs0) P rule.results c0.next 1 (λ t m v i. var_in t (inl m) v i) (right_in P c0.equations r0 (right_in P a0.equations (c0.equations ++ r0) own)))),
  )
